-- The costs of the jobs, one by one.
use Rattle.std.proofs.Common.{◌≡◌, ℕ, zero, suc, ◌+◌, ◌*◌, ◌<◌, ◌≤◌, List, [], ◌∷◌, length, get_or, take, fold, ℤ, pos, ◌+ℤ◌, refl, sym, ap, ◌∙◌, subst, subst₂, All, arith, zero-add, slice_index_or}
use Rattle.std.specs.Int.{int_max}
use Rattle.std.proofs.lemmas.List.Sums.{fold_more}
use Rattle.std.proofs.lemmas.List.{take_all}
use Rattle.std.proofs.lemmas.Int.{ints, clamps}
use Rattle.msp_class.specs.declared.class.Crit.{Crit}
use Rattle.msp_instance.specs.declared.Job.{Job}
use Rattle.msp_instance.specs.Conditions.{LiesWithin}
use Rattle.msp_pieces.specs.Cost.{job_cost, job_costs, greatest}
use Rattle.msp_pieces.specs.Feasible.{total}
use Rattle.msp_pieces.specs.Within.{HasSmallCost, greatest_cost, IsMoment}

pub length-job_costs : (crit : Crit) (unit : ℤ) (end : ℕ → ℤ) (a : ℕ) (jobs : List Job) → length (job_costs crit unit end a jobs) ≡ length jobs
length-job_costs crit unit end a [] = refl
length-job_costs crit unit end a (j ∷ js) = ap suc (length-job_costs crit unit end (a + 1) js)

pub get_or-job_costs : (crit : Crit) (unit : ℤ) (end : ℕ → ℤ) (a k : ℕ) (jobs : List Job) (d : Job) (z : ℤ)
    → k < length jobs → get_or (job_costs crit unit end a jobs) k z ≡ job_cost crit unit (get_or jobs k d) (end (a + k))
get_or-job_costs crit unit end a k [] d z h = absurd (omega arith)
get_or-job_costs crit unit end a zero (j ∷ js) d z h = ap (λ n. job_cost crit unit j (end n)) (omega arith)
get_or-job_costs crit unit end a (suc k) (j ∷ js) d z h = get_or-job_costs crit unit end (a + 1) k js d z (omega arith) ∙ ap (λ n. job_cost crit unit (get_or js k d) (end n)) (omega arith)

-- the same ends give the same costs
pub job_costs-same : (crit : Crit) (unit : ℤ) (f g : ℕ → ℤ) (a : ℕ) (jobs : List Job) → ((k : ℕ) → k < a + length jobs → f k ≡ g k) → job_costs crit unit f a jobs ≡ job_costs crit unit g a jobs
job_costs-same crit unit f g a [] h = refl
job_costs-same crit unit f g a (j ∷ js) h =
    ap (λ x. job_cost crit unit j x ∷ job_costs crit unit f (a + 1) js) (h a (omega arith))
    ∙ ap (λ l. job_cost crit unit j (g a) ∷ l) (job_costs-same crit unit f g (a + 1) js (λ k l. h k (omega arith)))

pub greatest-more : (xs : List ℤ) (k : ℕ) (z : ℤ) → 0 < k → k < length xs → greatest (take (k + 1) xs) ≡ int_max (greatest (take k xs)) (get_or xs k z)
greatest-more [] k z h l = absurd (omega arith)
greatest-more (x ∷ xs) zero z h l = absurd (omega arith)
greatest-more (x ∷ xs) (suc k) z h l =
    ap (λ n. greatest (take n (x ∷ xs))) (let same_suc : suc k + 1 ≡ suc (k + 1) = omega arith in same_suc) ∙ fold_more int_max x xs k z (omega arith)

-- the costs by the ends that the numbers say
abbrev pub costs_by : Crit → ℤ → List ℤ → List Job → List ℤ
costs_by crit unit ends jobs = job_costs crit unit (λ k. slice_index_or ends k (pos 0)) 0 jobs

-- the sum of the first costs, and how far it can be from 0
pub record SumsTo (crit : Crit) (unit : ℤ) (ends : List ℤ) (jobs : List Job) (k : ℕ) (sum : ℤ) : Type 0 where
  pub sum_is : sum ≡ fold ◌+ℤ◌ (pos 0) (take k (costs_by crit unit ends jobs))
  pub size : LiesWithin (greatest_cost * k) sum

cost_at : (crit : Crit) (unit : ℤ) (ends : List ℤ) (jobs : List Job) (k : ℕ) (j : Job) (d : Job) (x : ℤ) → k < length jobs → j ≡ get_or jobs k d →
    x ≡ job_cost crit unit j (slice_index_or ends k (pos 0)) → get_or (costs_by crit unit ends jobs) k (pos 0) ≡ x
cost_at crit unit ends jobs k j d x h is e =
    get_or-job_costs crit unit (λ n. slice_index_or ends n (pos 0)) 0 k jobs d (pos 0) h
    ∙ ap (λ n. job_cost crit unit (get_or jobs k d) (slice_index_or ends n (pos 0))) (zero-add k)
    ∙ ap (λ q. job_cost crit unit q (slice_index_or ends k (pos 0))) (sym is) ∙ sym e

pub SumsTo-next : (crit : Crit) (unit : ℤ) (ends : List ℤ) (jobs : List Job) (k : ℕ) (j d : Job) (sum x : ℤ) → k < length jobs → j ≡ get_or jobs k d →
    x ≡ job_cost crit unit j (slice_index_or ends k (pos 0)) → LiesWithin greatest_cost x → SumsTo crit unit ends jobs k sum → SumsTo crit unit ends jobs (k + 1) (sum +ℤ x)
SumsTo-next crit unit ends jobs k j d sum x h is e small so_far = record {
  sum_is = ap (λ s. s +ℤ x) so_far.sum_is
      ∙ ap (λ y. fold ◌+ℤ◌ (pos 0) (take k (costs_by crit unit ends jobs)) +ℤ y) (sym (cost_at crit unit ends jobs k j d x h is e))
      ∙ sym (fold_more ◌+ℤ◌ (pos 0) (costs_by crit unit ends jobs) k (pos 0) (omega (arith, length-job_costs crit unit (λ n. slice_index_or ends n (pos 0)) 0 jobs)));
  size = (omega (arith, ints, so_far.size, small), omega (arith, ints, so_far.size, small));
}

-- the greatest of the first costs
pub record ReachesTo (crit : Crit) (unit : ℤ) (ends : List ℤ) (jobs : List Job) (k : ℕ) (top : ℤ) : Type 0 where
  pub top_is : top ≡ greatest (take k (costs_by crit unit ends jobs))
  pub size : LiesWithin greatest_cost top

pub ReachesTo-one : (crit : Crit) (unit : ℤ) (ends : List ℤ) (jobs : List Job) (j d : Job) (x : ℤ) → 0 < length jobs → j ≡ get_or jobs 0 d →
    x ≡ job_cost crit unit j (slice_index_or ends 0 (pos 0)) → LiesWithin greatest_cost x → ReachesTo crit unit ends jobs 1 x
ReachesTo-one crit unit ends [] j d x h is e small = absurd (omega arith)
ReachesTo-one crit unit ends (i ∷ is) j d x h same e small = record { top_is = e ∙ ap (λ q. job_cost crit unit q (slice_index_or ends 0 (pos 0))) same; size = small }

pub ReachesTo-next : (crit : Crit) (unit : ℤ) (ends : List ℤ) (jobs : List Job) (k : ℕ) (j d : Job) (top x : ℤ) → 0 < k → k < length jobs → j ≡ get_or jobs k d →
    x ≡ job_cost crit unit j (slice_index_or ends k (pos 0)) → LiesWithin greatest_cost x → ReachesTo crit unit ends jobs k top → ReachesTo crit unit ends jobs (k + 1) (int_max top x)
ReachesTo-next crit unit ends jobs k j d top x some h is e small so_far = record {
  top_is = ap (λ s. int_max s x) so_far.top_is
      ∙ ap (int_max (greatest (take k (costs_by crit unit ends jobs)))) (sym (cost_at crit unit ends jobs k j d x h is e))
      ∙ sym (greatest-more (costs_by crit unit ends jobs) k (pos 0) some (omega (arith, length-job_costs crit unit (λ n. slice_index_or ends n (pos 0)) 0 jobs)));
  size = (omega (arith, ints, clamps, so_far.size, small), omega (arith, ints, clamps, so_far.size, small));
}

-- the steps at the numbers as the code passes them
pub SumsTo-step : (crit : Crit) (unit : ℤ) (ends : List ℤ) (jobs : List Job) (k : ℕ) (j : Job) (end sum x new : ℤ) → k < length jobs → j ≡ get_or jobs k j → end ≡ slice_index_or ends k (pos 0) →
    x ≡ job_cost crit unit j end → LiesWithin greatest_cost x → new ≡ sum +ℤ x → SumsTo crit unit ends jobs k sum → SumsTo crit unit ends jobs (k + 1) new
SumsTo-step crit unit ends jobs k j end sum x new h is at e small e' so_far =
    subst (SumsTo crit unit ends jobs (k + 1)) (sym e') (SumsTo-next crit unit ends jobs k j j sum x h is (e ∙ ap (job_cost crit unit j) at) small so_far)

pub SumsTo-all : (crit : Crit) (unit u : ℤ) (ends : List ℤ) (jobs : List Job) (k : ℕ) (sum : ℤ)
    → u ≡ unit → length jobs ≤ k → SumsTo crit u ends jobs k sum → sum ≡ total (costs_by crit unit ends jobs)
SumsTo-all crit unit u ends jobs k sum e h so_far =
    so_far.sum_is ∙ ap (fold ◌+ℤ◌ (pos 0)) (take_all k (costs_by crit u ends jobs) (omega (arith, length-job_costs crit u (λ n. slice_index_or ends n (pos 0)) 0 jobs)))
    ∙ ap (λ v. total (costs_by crit v ends jobs)) e

pub ReachesTo-step : (crit : Crit) (unit : ℤ) (ends : List ℤ) (jobs : List Job) (k : ℕ) (j : Job) (end top x new : ℤ)
    → 0 < k → k < length jobs → j ≡ get_or jobs k j → end ≡ slice_index_or ends k (pos 0) →
    x ≡ job_cost crit unit j end → LiesWithin greatest_cost x → new ≡ int_max top x → ReachesTo crit unit ends jobs k top → ReachesTo crit unit ends jobs (k + 1) new
ReachesTo-step crit unit ends jobs k j end top x new some h is at e small e' so_far =
    subst (ReachesTo crit unit ends jobs (k + 1)) (sym e') (ReachesTo-next crit unit ends jobs k j j top x some h is (e ∙ ap (job_cost crit unit j) at) small so_far)

pub ReachesTo-all : (crit : Crit) (unit u : ℤ) (ends : List ℤ) (jobs : List Job) (k : ℕ) (top : ℤ)
    → u ≡ unit → length jobs ≤ k → ReachesTo crit u ends jobs k top → top ≡ greatest (costs_by crit unit ends jobs)
ReachesTo-all crit unit u ends jobs k top e h so_far =
    so_far.top_is ∙ ap greatest (take_all k (costs_by crit u ends jobs) (omega (arith, length-job_costs crit u (λ n. slice_index_or ends n (pos 0)) 0 jobs)))
    ∙ ap (λ v. greatest (costs_by crit v ends jobs)) e

pub ReachesTo-first : (crit : Crit) (unit : ℤ) (ends : List ℤ) (jobs : List Job) (j : Job) (end x new : ℤ) → 0 < length jobs → j ≡ get_or jobs 0 j → end ≡ slice_index_or ends 0 (pos 0) →
    x ≡ job_cost crit unit j end → LiesWithin greatest_cost x → new ≡ x → ReachesTo crit unit ends jobs 1 new
ReachesTo-first crit unit ends jobs j end x new some is at e small e' =
    subst (ReachesTo crit unit ends jobs 1) (sym e') (ReachesTo-one crit unit ends jobs j j x some is (e ∙ ap (job_cost crit unit j) at) small)

pub passed_moment : (x y : ℤ) → x ≡ y → IsMoment y → IsMoment x
passed_moment x y e h = subst IsMoment (sym e) h

pub passed_cost : (u unit : ℤ) (jobs : List Job) (k : ℕ) (j : Job) → u ≡ unit → k < length jobs → j ≡ get_or jobs k j → All (HasSmallCost unit) jobs → HasSmallCost u j
passed_cost u unit jobs k j e h is small = subst₂ HasSmallCost (sym e) (sym is) (small k j h)

pub passed_max : (new r top x y : ℤ) → r ≡ int_max top y → y ≡ x → new ≡ r → new ≡ int_max top x
passed_max new r top x y e f g = g ∙ e ∙ ap (int_max top) f
