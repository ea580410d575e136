-- The range of bounds in which the least one lies, and the least bound as a cost.
use Rattle.std.proofs.Common.{◌≡◌, ℕ, ◌+◌, ◌*◌, ◌<◌, ◌≤◌, inl, inr, List, [], ◌∷◌, ◌++◌, Option, Some, length, get_or, take, All, ℤ, pos, nat_abs, ◌-ℤ◌, ◌*ℤ◌, ◌≤ℤ◌}
use Rattle.std.proofs.Common.{FitsSigned, to_z, of_z, refl, sym, ap, ap₂, subst, subst₂, ◌∙◌, arith}
use Rattle.std.specs.Prelude.{◌↔◌, IsTrue, MatchOption, nat_eq}
use Rattle.std.specs.Int.{int_max, w64, w128}
use Rattle.std.proofs.lemmas.Bool.{eqb-true}
use Rattle.std.proofs.lemmas.Int.{ints, to_z-of_z}
use Rattle.std.proofs.lemmas.List.{take_all, take_more}
use Rattle.std.proofs.lemmas.List.Elements.{All-push}
use Rattle.msp_class.specs.declared.sizes.TheConstants.{GREATEST}
use Rattle.msp_class.specs.declared.class.Crit.TheVariants.{SumU}
use Rattle.msp_class.proofs.IntegerRing.{natural, zero-le-pos, *ℤ-one, *ℤ_comm, *ℤ-zero, zero-*ℤ, *ℤ-cancel_pos, *ℤ-cancel_same, ≤ℤ-int_max_left, ≤ℤ-int_max_right, int_max-least}
use Rattle.msp_class.proofs.IntegerRing.{≤ℤ_antisym, ≤ℤ_total, ≤ℤ_trans}
use Rattle.msp_instance.specs.declared.Job.{Job}
use Rattle.msp_instance.specs.declared.Instance.{Instance}
use Rattle.msp_instance.specs.Conditions.{LiesWithin}
use Rattle.msp_pieces.specs.declared.Piece.{Piece}
use Rattle.msp_pieces.specs.declared.Schedule.{Schedule}
use Rattle.msp_pieces.specs.declared.Frac.{Frac}
use Rattle.msp_pieces.specs.Fraction.{IsOver}
use Rattle.msp_pieces.specs.Feasible.{Feasible}
use Rattle.msp_pieces.specs.Cost.{cost_of, Best}
use Rattle.msp_pieces.proofs.costs.LateJobs.{late_jobs, late_cost}
use Rattle.msp_pieces.proofs.feasible.OneEach.{IsUncut-identical}
use Rattle.msp_route.specs.Bounds.{IsAnswer, answer_unit}
use Rattle.msp_route.proofs.OneEach.{one_each_is_answer}
use Rattle.msp_threshold.specs.Squeezed.{greatest_bound, AreKept, HasTime, squeezed_by, CanMeet, CanBeFree}
use Rattle.msp_threshold.specs.Search.{IsLowest, number_of, pieces_back}
use Rattle.msp_route.specs.Halving.{IsLeastBound, IsRange}
use Rattle.msp_threshold.proofs.Facts.{IsLatenessShop, fits, fits_wide}
use Rattle.msp_threshold.proofs.Meeting.{own_cost, meets_moments, moments_below}
use Rattle.msp_threshold.proofs.Law.{free_if_met}
use Rattle.msp_threshold.proofs.BackMeets.{back_each, back_feasible, back_meets, back_inside, time_if_met}

-- ---- the least bound for which each job has time
pub has_time-more : (a b : ℤ) (jobs : List Job) → a ≤ℤ b → All (HasTime a) jobs → All (HasTime b) jobs
has_time-more a b jobs h t k d l = omega (arith, ints, t k d l, h)

pub has_time-here : (bound x : ℤ) (j : Job) → x ≡ pos (j.release + 1) -ℤ j.due → x ≤ℤ bound → HasTime bound j
has_time-here bound x j e h = omega (arith, ints, e, h)

pub has_time-there : (bound x : ℤ) (j : Job) → x ≡ pos (j.release + 1) -ℤ j.due → HasTime bound j → x ≤ℤ bound
has_time-there bound x j e h = omega (arith, ints, e, h)

pub record IsLowestSoFar (jobs : List Job) (k : ℕ) (lowest : ℤ) : Type 0 where
  pub time : All (HasTime lowest) (take k jobs)
  pub least : (bound : ℤ) → All (HasTime bound) jobs → lowest ≤ℤ bound
  pub size : LiesWithin (4 * GREATEST + 1) lowest

module _ (jobs : List Job) (released : All (λ j. j.release ≤ 2 * GREATEST) jobs) (dues : All (λ j. LiesWithin (2 * GREATEST) j.due) jobs)
    (k : ℕ) (j : Job) (x : ℤ) (inside : k < length jobs) (at : j ≡ get_or jobs k j) (e : x ≡ pos (j.release + 1) -ℤ j.due) where
  here : (P : Job → Type 0) → All P jobs → P j
  here P h = subst P (sym at) (h k j inside)

  small : LiesWithin (4 * GREATEST + 1) x
  small = let r = here (λ j. j.release ≤ 2 * GREATEST) released in let w = here (λ j. LiesWithin (2 * GREATEST) j.due) dues in
      (omega (arith, ints, e, r, w.1), omega (arith, ints, e, r, w.0))

  is : to_z w64 (of_z w64 x) ≡ x
  is = to_z-of_z w64 x (fits (4 * GREATEST + 1) x (omega arith) small)

  pub lowest-start : IsLowestSoFar jobs 0 (to_z w64 (of_z w64 x))
  lowest-start = subst (IsLowestSoFar jobs 0) (sym is) (record {
    time = λ m d l. absurd (omega (arith, l));
    least = λ bound all. has_time-there bound x j e (here (HasTime bound) all);
    size = small;
  })

  pub lowest-next : (old a b new : ℤ) → a ≡ old → b ≡ to_z w64 (of_z w64 x) → new ≡ int_max a b → IsLowestSoFar jobs k old → IsLowestSoFar jobs (k + 1) (to_z w64 (of_z w64 new))
  lowest-next old a b new f g m h = subst (IsLowestSoFar jobs (k + 1)) (sym (to_z-of_z w64 new (fits (4 * GREATEST + 1) new (omega arith) size))) (record {
    time = subst (All (HasTime new)) (sym (take_more jobs k j inside ∙ ap (λ y. take k jobs ++ y ∷ []) (sym at)))
        (All-push (HasTime new) (take k jobs) j (has_time-more old new (take k jobs) (subst (λ z. old ≤ℤ z) (sym is_max) (≤ℤ-int_max_left old x)) h.time)
        (has_time-here new x j e (subst (λ z. x ≤ℤ z) (sym is_max) (≤ℤ-int_max_right old x))));
    least = λ bound all. subst (λ z. z ≤ℤ bound) (sym is_max) (int_max-least (h.least bound all) (has_time-there bound x j e (here (HasTime bound) all)));
    size = size;
  })
    where
      is_max : new ≡ int_max old x
      is_max = m ∙ ap₂ int_max f (g ∙ is)

      size : LiesWithin (4 * GREATEST + 1) new
      size = (≤ℤ_trans h.size.0 (subst (λ z. old ≤ℤ z) (sym is_max) (≤ℤ-int_max_left old x)), subst (λ z. z ≤ℤ pos (4 * GREATEST + 1)) (sym is_max) (int_max-least h.size.1 small.1))

pub lowest-end : (jobs : List Job) (k : ℕ) (a lowest : ℤ) → length jobs ≤ k → a ≡ lowest → IsLowestSoFar jobs k lowest → IsLowest jobs a
lowest-end jobs k a lowest l e h = subst (IsLowest jobs) (sym e) (record { time = subst (All (HasTime lowest)) (take_all k jobs l) h.time; least = h.least })

module _ (i : Instance) (t : IsLatenessShop i) where
  abbrev n : ℕ
  n = length i.jobs

  -- ---- the first range
  pub first_range : (low high : ℤ) → IsLowest i.jobs low → LiesWithin (4 * GREATEST + 1) low → CanMeet i high → LiesWithin (5 * GREATEST) high
      → IsRange (CanMeet i) greatest_bound (record { low = low; high = high })
  first_range low high lowest size met small = record {
    met = met;
    least = λ bound met. lowest.least bound (time_if_met i t bound met);
    low = (omega (arith, ints, size.0), omega (arith, ints, size.1));
    high = (omega (arith, ints, small.0), omega (arith, ints, small.1));
  }

  -- ---- a schedule that meets the least bound costs it, and is best
  module _ (kept : List ℕ) (k : AreKept i kept) (bound : ℤ) (least : IsLeastBound (CanMeet i) bound) (pieces : List Piece)
      (f : Feasible i (record { unit = pos 1; pieces = pieces })) (m : cost_of i (record { unit = pos 1; pieces = pieces }) ≤ℤ (bound *ℤ pos 1)) where
    abbrev s : Schedule
    s = record { unit = pos 1; pieces = pieces }

    pub least_cost : cost_of i (record { unit = pos 1; pieces = pieces }) ≡ bound
    least_cost = ≤ℤ_antisym (subst (λ x. cost_of i s ≤ℤ x) (*ℤ-one bound) m) (least.least (cost_of i s) (own_cost i pieces f))

    pub least_best : Best i (record { unit = pos 1; pieces = pieces })
    least_best = record { feasible = f; least = λ u g. subst₂ (λ x y. x ≤ℤ y) (sym (ap (λ c. c *ℤ u.unit) least_cost)) (sym (*ℤ-one (cost_of i u))) (no_less u g) }
      where
        no_less : (u : Schedule) → Feasible i u → (bound *ℤ u.unit) ≤ℤ cost_of i u
        no_less u g = elim (≤ℤ_total (bound *ℤ u.unit) (cost_of i u)) [
          | inl more ↦ more
          | inr less ↦ absurd
              (omega (arith, ints, least.least (bound -ℤ pos 1) (meets_moments i t k.heads k.slots k.all k.filled (bound -ℤ pos 1) (moments_below i t bound u g less))))
        ]

-- ---- late jobs
module _ (j : Instance) (crit : j.class.crit ≡ SumU) (s : Schedule) (best : Best j s) where
  unit_is : s.unit ≡ pos (nat_abs s.unit)
  unit_is = natural s.unit (omega (arith, ints, best.feasible.unit))

  no_less : pos 0 ≤ℤ cost_of j s
  no_less = subst (λ x. pos 0 ≤ℤ x) (sym (late_cost j s (nat_abs s.unit) crit unit_is)) (zero-le-pos (nat_abs s.unit * late_jobs j s))

  pub best_is_free : CanBeFree j → cost_of j s ≡ pos 0
  best_is_free (u, f, e) = ≤ℤ_antisym (*ℤ-cancel_pos u.unit (omega (arith, ints, f.unit))
      (subst₂ (λ x y. x ≤ℤ y) (*ℤ_comm (cost_of j s) u.unit) (ap (λ c. c *ℤ s.unit) e ∙ zero-*ℤ s.unit ∙ sym (*ℤ-zero u.unit)) (best.least u f))) no_less

  pub free_by_cost : (cost : Frac) → IsOver cost (cost_of j s) s.unit → (cost.num ≡ pos 0) ↔ CanBeFree j
  free_by_cost cost over = (
    (λ e.
        (s, best.feasible, zero (nat_abs cost.den) (cost_of j s) cost.den (natural cost.den (omega (arith, ints, cost.positive))) cost.positive (sym over ∙ ap (λ x. x *ℤ s.unit) e ∙ zero-*ℤ s.unit))),
    (λ h. zero (nat_abs s.unit) cost.num s.unit unit_is best.feasible.unit (over ∙ ap (λ x. x *ℤ cost.den) (best_is_free h) ∙ zero-*ℤ cost.den)),
  )
    where
      zero : (d : ℕ) (x y : ℤ) → y ≡ pos d → pos 1 ≤ℤ y → x *ℤ y ≡ pos 0 → x ≡ pos 0
      zero d x y e one h = *ℤ-cancel_same d (omega (arith, ints, e, one)) (sym (*ℤ_comm x (pos d)) ∙ ap (λ z. x *ℤ z) (sym e) ∙ h ∙ sym (*ℤ-zero (pos d)))

-- ---- a best schedule of the squeezed instance at the least bound, brought back
module _ (i : Instance) (t : IsLatenessShop i) (kept : List ℕ) (k : AreKept i kept) (bound : ℤ) (small : LiesWithin greatest_bound bound)
    (least : IsLeastBound (CanMeet i) bound) (lower : Instance) (lower_is : lower ≡ squeezed_by kept bound i) (s : Schedule) (best : Best lower s) where
  possible : All (HasTime bound) i.jobs
  possible = time_if_met i t bound least.met

  in_lower : Best (squeezed_by kept bound i) s
  in_lower = subst (λ l. Best l s) lower_is best

  free : cost_of (squeezed_by kept bound i) s ≡ pos 0
  free = best_is_free (squeezed_by kept bound i) refl s in_lower (free_if_met i t kept k bound least.met)

  pub answer_inside : All (λ p. number_of s.unit p < length kept) s.pieces
  answer_inside = back_inside i t kept k bound small possible s in_lower.feasible free

  feasible : Feasible i (record { unit = pos 1; pieces = pieces_back kept s })
  feasible = back_feasible i t kept k bound small possible s in_lower.feasible free

  meets : cost_of i (record { unit = pos 1; pieces = pieces_back kept s }) ≤ℤ (bound *ℤ pos 1)
  meets = back_meets i t kept k bound small possible s in_lower.feasible free

  pub answer_cost : cost_of i (record { unit = pos 1; pieces = pieces_back kept s }) ≡ bound
  answer_cost = least_cost i t kept k bound least (pieces_back kept s) feasible meets

  pub answer_best : Best i (record { unit = pos 1; pieces = pieces_back kept s })
  answer_best = least_best i t kept k bound least (pieces_back kept s) feasible meets

  pub answer_bounds : IsAnswer i (record { unit = pos 1; pieces = pieces_back kept s })
  answer_bounds = one_each_is_answer i (IsUncut-identical i t.kind t.cut t.few) 1 (pieces_back kept s)
      (back_each i t kept k bound small possible s in_lower.feasible free) (subst (λ e. pos 1 ≤ℤ answer_unit e) (sym t.kind) (omega (arith, ints)))

-- ---- tests, as the code makes them
pub zero_test : (x : ℤ) → FitsSigned w128 x → IsTrue (nat_eq (of_z w128 x) 0) ↔ (x ≡ pos 0)
zero_test x h = ((λ e. sym (to_z-of_z w128 x h) ∙ ap (to_z w128) (eqb-true (of_z w128 x) 0 e)), (λ e. subst (λ z. IsTrue (nat_eq (of_z w128 z) 0)) (sym e) refl))

pub some_value : {A : Type 0} (P : Type 0) (Q : A → Type 0) (o : Option A) (a : A) → o ≡ Some a → MatchOption o P Q → Q a
some_value P Q o a e h = subst (λ o. MatchOption o P Q) e h

-- a small bound of 128 bits is one of 64
pub narrow_is : (x : ℤ) → LiesWithin greatest_bound x → to_z w64 (of_z w64 (to_z w128 (of_z w128 x))) ≡ x
narrow_is x h = ap (λ y. to_z w64 (of_z w64 y)) (to_z-of_z w128 x (fits_wide greatest_bound x (omega arith) h)) ∙ to_z-of_z w64 x (fits greatest_bound x (omega arith) h)

pub range_at : (i : Instance) → IsLatenessShop i → (jobs : List Job) (low high wide_low wide_high : ℤ) → jobs ≡ i.jobs → wide_low ≡ to_z w64 (of_z w64 low) → wide_high ≡ to_z w64 (of_z w64 high)
    → IsLowest jobs low → LiesWithin (4 * GREATEST + 1) low → CanMeet i high → LiesWithin (5 * GREATEST) high
    → IsRange (CanMeet i) greatest_bound (record { low = to_z w128 (of_z w128 wide_low); high = to_z w128 (of_z w128 wide_high) })
range_at i t jobs low high wide_low wide_high e f g lowest size met small =
    subst₂ (λ x y. IsRange (CanMeet i) greatest_bound (record { low = x; high = y }))
    (sym (ap (λ x. to_z w128 (of_z w128 x)) (f ∙ to_z-of_z w64 low (fits (4 * GREATEST + 1) low (omega arith) size)) ∙ to_z-of_z w128 low (fits_wide (4 * GREATEST + 1) low (omega arith) size)))
    (sym (ap (λ x. to_z w128 (of_z w128 x)) (g ∙ to_z-of_z w64 high (fits (5 * GREATEST) high (omega arith) small)) ∙ to_z-of_z w128 high (fits_wide (5 * GREATEST) high (omega arith) small)))
    (first_range i t low high (subst (λ js. IsLowest js low) e lowest) size met small)
