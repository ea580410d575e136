-- One job after another is put into the table.
use Rattle.std.proofs.Common.{◌≡◌, ℕ, ◌+◌, ◌-◌, ◌*◌, ◌<◌, ◌≤◌, false, List, length, get_or, take, ℤ, All, sym, subst, ◌∙◌, arith, below_more}
use Rattle.std.specs.Prelude.{slice_index}
use Rattle.std.proofs.lemmas.List.{length-take}
use Rattle.std.proofs.lemmas.List.Elements.{All-take}
use Rattle.msp_class.specs.declared.sizes.TheConstants.{MOST_JOBS, GREATEST}
use Rattle.msp_instance.specs.declared.Job.{Job}
use Rattle.msp_instance.specs.declared.Instance.{Instance}
use Rattle.msp_instance.specs.Instance.{no_job}
use Rattle.msp_pieces.specs.BackToBack.{time_at}
use Rattle.msp_pieces.proofs.costs.LateJobs.{due_at}
use Rattle.msp_weighted.specs.Values.{weight_at, first_value, values_of, is_taken, is_flagged, IsPut, IsFilled}
use Rattle.msp_weighted.proofs.ValueFacts.{gains-same, value_with-same, values-more, values_small}
use Rattle.msp_instance.proofs.BitLemmas.{row_inside}

module _ (i : Instance) (order : List ℕ) (width : ℕ) where
  pub filled-start : (v m : List ℕ) → ((t : ℕ) → t < width → slice_index v t ≡ first_value t) → ((n : ℕ) → is_flagged m n ≡ false) → IsFilled i order width 0 v m
  filled-start v m first clear = record {
    value = first;
    flagged = λ j t l k. absurd (omega (arith, l));
    clear = λ n l. clear n;
  }

  module _ (k : ℕ) (l : k < length order) (v m : List ℕ) (h : IsFilled i order width k v m) where
    abbrev x : ℕ
    x = get_or order k 0

    -- the values are small
    pub filled_small : All (λ j. weight_at i j ≤ GREATEST) order → length order ≤ MOST_JOBS → (t : ℕ) → t < width → slice_index v t ≤ GREATEST * MOST_JOBS
    filled_small light few t n =
        omega (arith, h.value t n, values_small i GREATEST (take k order) (All-take (λ j. weight_at i j ≤ GREATEST) k order light) t, length-take k order, l, few)

    pub filled-next : (v' m' : List ℕ) → IsPut (time_at i x) (weight_at i x) (due_at i x) (k * width) width v m v' m' → IsFilled i order width (k + 1) v' m'
    filled-next v' m' p = record {
      value = λ t n. p.value t n ∙ value_with-same (time_at i x) (weight_at i x) (due_at i x)
          (slice_index v) (values_of i (take k order)) t (h.value t n) (h.value (t - time_at i x) (omega (arith, n))) ∙ sym (values-more i order k t l);
      flagged = λ j t a n. below_more (λ j. is_flagged m' (j * width + t) ≡ is_taken i order j t) k
          (λ j b. p.before (j * width + t) (omega (arith, row_inside width k j b, n)) ∙ h.flagged j t b n)
          (p.flagged t n ∙ gains-same (time_at i x) (weight_at i x) (due_at i x) (slice_index v) (values_of i (take k order)) t
          (h.value t n) (h.value (t - time_at i x) (omega (arith, n)))) j a;
      clear = λ n a. p.behind n (omega (arith, a)) ∙ h.clear n (omega (arith, a));
    }

    -- with what was read of the job
    pub filled_read : (v' m' : List ℕ) (time weight : ℕ) (due : ℤ) → time ≡ time_at i x
        → weight ≡ weight_at i x → due ≡ due_at i x → IsPut time weight due (k * width) width v m v' m' → IsFilled i order width (k + 1) v' m'
    filled_read v' m' time weight due et ew ed p =
        let a = subst (λ n. IsPut n weight due (k * width) width v m v' m') et p in
        let b = subst (λ n. IsPut (time_at i x) n due (k * width) width v m v' m') ew a in
        filled-next v' m' (subst (λ n. IsPut (time_at i x) (weight_at i x) n (k * width) width v m v' m') ed b)

-- the weights of the jobs of a list
pub weights_light : (i : Instance) (order : List ℕ) → All (λ (j : Job). j.weight ≤ GREATEST) i.jobs → All (λ j. j < length i.jobs) order → All (λ j. weight_at i j ≤ GREATEST) order
weights_light i order h inside k d l = h (get_or order k d) no_job (inside k d l)

-- the width by another name
pub put_width : (time weight : ℕ) (due : ℤ) (row a b : ℕ) (v m v' m' : List ℕ) → a ≡ b → IsPut time weight due row a v m v' m' → IsPut time weight due row b v m v' m'
put_width time weight due row a b v m v' m' e p = subst (λ n. IsPut time weight due row n v m v' m') e p
