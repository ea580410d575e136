-- How large the cost of a schedule within the bounds can be.
use Rattle.std.proofs.Common.{ℕ, ◌+◌, ◌*◌, ◌≤◌, ◌<◌, Bool, true, false, cond, List, [], ◌∷◌, length, get_or, fold, All, inl, inr, ℤ, pos, ◌+ℤ◌, ◌-ℤ◌, ◌*ℤ◌, int_lt, unsigned_abs}
use Rattle.std.proofs.Common.{refl, sym, subst, arith, lit≤}
use Rattle.std.specs.Int.{int_max}
use Rattle.std.proofs.lemmas.Int.{ints, clamps, fold-int_max_reached}
use Rattle.std.proofs.lemmas.List.Elements.{All-head, All-tail, All-contains}
use Rattle.msp_class.specs.declared.class.Crit.{Crit}
use Rattle.msp_class.specs.declared.class.Crit.TheVariants.{Lmax, Fmax, SumWC, SumU, SumWU, SumT, SumWT}
use Rattle.msp_class.specs.Crit.{is_greatest}
use Rattle.msp_class.specs.declared.sizes.TheConstants.{MOST_JOBS, GREATEST}
use Rattle.msp_instance.specs.declared.Instance.{Instance}
use Rattle.msp_instance.specs.declared.Job.{Job}
use Rattle.msp_instance.specs.Instance.{no_job}
use Rattle.msp_instance.specs.Conditions.{LiesWithin, Inner}
use Rattle.msp_pieces.specs.declared.limits.TheConstants.{GREATEST_MOMENT}
use Rattle.msp_pieces.specs.declared.Piece.{Piece}
use Rattle.msp_pieces.specs.declared.Schedule.{Schedule}
use Rattle.msp_pieces.specs.Cost.{last_end, end_of, jumps, job_cost, job_costs, greatest, cost_of}
use Rattle.msp_pieces.specs.Feasible.{total}
use Rattle.msp_pieces.specs.Within.{IsMoment, IsUnit, HasSmallCost, Within, greatest_scaled, greatest_level, greatest_lateness, greatest_cost, greatest_total}
use Rattle.msp_pieces.proofs.costs.Costs.{length-job_costs, get_or-job_costs}
use Rattle.msp_pieces.proofs.costs.Jumps.{jumps_le}
use Rattle.msp_pieces.proofs.feasible.LastEnds.{last_end-natural, last_end-least}
use Rattle.msp_pieces.proofs.costs.Small.{small_costs, product_within}

-- ---- one job
moment_within : (x : ℤ) → IsMoment x → LiesWithin greatest_cost x
moment_within x m = (omega (arith, ints, m), omega (arith, ints, m))

late_by : (x y : ℤ) → IsMoment x → LiesWithin greatest_scaled y → LiesWithin greatest_lateness (x -ℤ y)
late_by x y m h = (omega (arith, ints, m, h), omega (arith, ints, m, h))

wider : (x : ℤ) → LiesWithin greatest_lateness x → LiesWithin greatest_cost x
wider x h = (omega (arith, ints, h), omega (arith, ints, h))

above_zero : (x : ℤ) → LiesWithin greatest_lateness x → LiesWithin greatest_lateness (int_max (pos 0) x)
above_zero x h = (omega (arith, ints, clamps, h), omega (arith, ints, clamps, h))

unit_or_none : (b : Bool) (unit : ℤ) → IsUnit unit → LiesWithin greatest_lateness (cond b unit (pos 0))
unit_or_none true unit h = (omega (arith, ints, h), omega (arith, ints, h))
unit_or_none false unit h = (omega (arith, ints), omega (arith, ints))

weighted : (w : ℕ) (x : ℤ) → w ≤ GREATEST → LiesWithin greatest_lateness x → LiesWithin greatest_cost (pos w *ℤ x)
weighted w x small h = product_within w x GREATEST greatest_lateness greatest_cost small h (lit≤ tt)

sloped : (w : ℕ) (x y : ℤ) → w ≤ GREATEST → IsMoment x → LiesWithin greatest_level y → LiesWithin greatest_cost ((pos w *ℤ x) +ℤ y)
sloped w x y small m h = along (pos w *ℤ x) y
    (product_within w x GREATEST (unsigned_abs GREATEST_MOMENT) (GREATEST * unsigned_abs GREATEST_MOMENT) small (omega (arith, ints, m), omega (arith, ints, m)) (lit≤ tt)) h
  where
    along : (x y : ℤ) → LiesWithin (GREATEST * unsigned_abs GREATEST_MOMENT) x → LiesWithin greatest_level y → LiesWithin greatest_cost (x +ℤ y)
    along x y h k = (omega (arith, ints, h, k), omega (arith, ints, h, k))

job_cost_small : (crit : Crit) (unit x : ℤ) (j : Job) → IsUnit unit → IsMoment x → HasSmallCost unit j → LiesWithin greatest_cost (job_cost crit unit j x)
job_cost_small Lmax unit x j u m h = wider _ (late_by x (unit *ℤ j.due) m h.due)
job_cost_small Fmax unit x j u m h = sloped j.curve.slope x _ h.slope m (h.base (jumps unit j.curve x) (jumps_le unit x j.curve.steps))
job_cost_small SumWC unit x j u m h = weighted j.weight x h.weight (omega (arith, ints, m), omega (arith, ints, m))
job_cost_small SumU unit x j u m h = wider _ (unit_or_none (int_lt (unit *ℤ j.due) x) unit u)
job_cost_small SumWU unit x j u m h = weighted j.weight _ h.weight (unit_or_none (int_lt (unit *ℤ j.due) x) unit u)
job_cost_small SumT unit x j u m h = wider _ (above_zero _ (late_by x (unit *ℤ j.due) m h.due))
job_cost_small SumWT unit x j u m h = weighted j.weight _ h.weight (above_zero _ (late_by x (unit *ℤ j.due) m h.due))
job_cost_small _ unit x j u m h = moment_within x m

-- ---- all jobs
abbrev IsSmall : ℤ → Type 0
IsSmall x = LiesWithin greatest_cost x

job_costs_small : (crit : Crit) (unit : ℤ) (end : ℕ → ℤ) (jobs : List Job) → IsUnit unit → ((j : ℕ) → IsMoment (end j)) → All (HasSmallCost unit) jobs → All IsSmall (job_costs crit unit end 0 jobs)
job_costs_small crit unit end jobs u m h k d l =
    let inside = subst (λ n. k < n) (length-job_costs crit unit end 0 jobs) l in
    subst IsSmall (sym (get_or-job_costs crit unit end 0 k jobs no_job d inside)) (job_cost_small crit unit (end (0 + k)) (get_or jobs k no_job) u (m (0 + k)) (h k no_job inside))

sums_small : (xs : List ℤ) (n : ℕ) (a : ℤ) → LiesWithin (greatest_cost * n) a → All IsSmall xs → LiesWithin (greatest_cost * (n + length xs)) (fold ◌+ℤ◌ a xs)
sums_small [] n a h all = subst (λ k. LiesWithin (greatest_cost * k) a) (omega arith) h
sums_small (x ∷ xs) n a h all =
    let r = sums_small xs (n + 1) (a +ℤ x) (next n a x h (All-head IsSmall x xs all)) (All-tail IsSmall x xs all) in
    subst (λ k. LiesWithin (greatest_cost * k) (fold ◌+ℤ◌ (a +ℤ x) xs)) (omega arith) r
  where
    next : (n : ℕ) (a x : ℤ) → LiesWithin (greatest_cost * n) a → IsSmall x → LiesWithin (greatest_cost * (n + 1)) (a +ℤ x)
    next n a x h k = (omega (arith, ints, h, k), omega (arith, ints, h, k))

greatest_small : (xs : List ℤ) → All IsSmall xs → IsSmall (greatest xs)
greatest_small [] all = (omega (arith, ints), omega (arith, ints))
greatest_small (x ∷ xs) all = elim (fold-int_max_reached x xs (fold int_max x xs) refl) [
  | inl e ↦ subst IsSmall (sym e) (All-head IsSmall x xs all)
  | inr c ↦ All-contains IsSmall xs _ (All-tail IsSmall x xs all) c
]

combined_small : (b : Bool) (xs : List ℤ) → length xs ≤ MOST_JOBS → All IsSmall xs → LiesWithin greatest_total (cond b (greatest xs) (total xs))
combined_small true xs few all = wide _ (greatest_small xs all)
  where
    wide : (x : ℤ) → IsSmall x → LiesWithin greatest_total x
    wide x h = (omega (arith, ints, h), omega (arith, ints, h))
combined_small false xs few all = wide _ (length xs) few (sums_small xs 0 (pos 0) (omega (arith, ints), omega (arith, ints)) all)
  where
    wide : (x : ℤ) (n : ℕ) → n ≤ MOST_JOBS → LiesWithin (greatest_cost * (0 + n)) x → LiesWithin greatest_total x
    wide x n few h = (omega (arith, ints, h, few), omega (arith, ints, h, few))

ends_are_moments : (ps : List Piece) → All (λ p. IsMoment p.from × IsMoment p.to) ps → (j : ℕ) → IsMoment (last_end ps j)
ends_are_moments ps h j = (last_end-natural ps j, last_end-least ps j _ (omega (arith, ints)) (λ k d l e. (h k d l).1.1))

pub cost_of_small : (i : Instance) (s : Schedule) → Inner i → Within i s → LiesWithin greatest_total (cost_of i s)
cost_of_small i s inner w =
    combined_small (is_greatest i.class.crit) (job_costs i.class.crit s.unit (end_of s) 0 i.jobs)
    (subst (λ n. n ≤ MOST_JOBS) (sym (length-job_costs i.class.crit s.unit (end_of s) 0 i.jobs)) inner.conditions.few)
    (job_costs_small i.class.crit s.unit (end_of s) i.jobs w.unit (ends_are_moments s.pieces w.moments) (small_costs i s inner w))
