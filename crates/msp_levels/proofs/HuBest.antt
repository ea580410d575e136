-- The schedule of the rule is feasible and best, and costs the greatest bound of a level.
use Rattle.std.proofs.Common.{◌≡◌, ℕ, ◌+◌, ◌-◌, ◌*◌, ◌/◌, ◌<◌, ◌≤◌, inl, inr, List, length, get_or, pos, ◌*ℤ◌, ◌≤ℤ◌, refl, sym, subst, arith}
use Rattle.std.specs.List.{range_with_len}
use Rattle.std.proofs.lemmas.Bool.{cases_lt}
use Rattle.std.proofs.lemmas.Nat.{le-div}
use native.Mathlib.Nat.{mul-le-mul_left}
use Rattle.msp_class.specs.Env.{kind_of}
use Rattle.msp_class.proofs.IntegerRing.{pos-le}
use Rattle.msp_class.proofs.Sums.{OnceBelow-range}
use Rattle.msp_instance.specs.declared.Instance.{Instance}
use Rattle.msp_instance.specs.Instance.{no_job}
use Rattle.msp_instance.specs.Conditions.{Inner}
use Rattle.msp_pieces.specs.declared.Piece.{Piece}
use Rattle.msp_pieces.specs.declared.Schedule.{Schedule}
use Rattle.msp_pieces.specs.declared.Frac.{Frac}
use Rattle.msp_pieces.specs.Fraction.{IsOver}
use Rattle.msp_pieces.specs.Cost.{cost_of, end_of}
use Rattle.msp_pieces.specs.Settled.{IsSettled}
use Rattle.msp_pieces.proofs.lists.Intervals.{greatest_below, greatest_below-bound, greatest_below-reached}
use Rattle.msp_route.specs.Bounds.{IsBestAnswer}
use Rattle.msp_route.proofs.OneEach.{one_each_is_answer}
use Rattle.msp_route.proofs.Owed.{unit_one}
use Rattle.msp_pieces.specs.Levels.{jobs_from, level_bound}
use Rattle.msp_slots.proofs.LeastCosts.{IsBestAt, IsBestAt-ends}
use Rattle.msp_slots.proofs.UnitPieces.{HasUnitJobs, HasUnitJobs-from, IsInUnits}
use Rattle.msp_slots.proofs.ListSchedules.{list_in_units, list_schedule_is_settled}
use Rattle.msp_levels.specs.Levels.{levels_class, IsGreatestBound, IsLevelCost}
use Rattle.msp_levels.specs.Steps.{Fits, AreByLevel}
use Rattle.msp_levels.proofs.ByLevel.{no_greater}
use Rattle.msp_levels.proofs.Progress.{ends_soon}
use Rattle.msp_levels.proofs.Facts.{IsUnitForest, IsUnitForest-from, IsForest-from}
use Rattle.msp_pieces.proofs.bounds.LevelBound.{StepsDown-levels, law_of_levels}

-- the quotient rounded up is enough
enough : (n m : ℕ) → 1 ≤ m → n ≤ m * ((n + (m - 1)) / m)
enough n m some = elim (cases_lt (m * ((n + (m - 1)) / m)) n) [
  | inl less ↦ let more : (n + (m - 1)) / m + 1 ≤ (n + (m - 1)) / m = le-div ((n + (m - 1)) / m + 1) (n + (m - 1)) m some (omega (arith, less, some)) in absurd (omega (arith, more))
  | inr more ↦ more
]

module _ (i : Instance) (t : IsUnitForest i) (pieces : List Piece) (r : AreByLevel i pieces) where
  abbrev n : ℕ
  n = length i.jobs

  abbrev level : ℕ → ℕ
  level = r.level

  unit_jobs : HasUnitJobs i
  unit_jobs = HasUnitJobs-from i _ _ _ _ refl t

  units : IsInUnits i r.runs.begin pieces
  units = list_in_units i r.order pieces r.runs unit_jobs (λ j l. (t.jobs j no_job l).release)

  -- ---- the cost
  abbrev levels_bound : ℕ
  levels_bound = greatest_below n (λ j. level_bound i level (level j))

  is_greatest_bound : IsGreatestBound i level levels_bound
  is_greatest_bound = record { reached = greatest_below-reached n (λ j. level_bound i level (level j)) t.some; greatest = greatest_below-bound n (λ j. level_bound i level (level j)) }

  fits : Fits i.machines level (range_with_len 0 n) levels_bound
  fits k d l =
      let j = get_or (range_with_len 0 n) k d in
      omega (
        arith,
        enough (jobs_from i level (level j)) i.machines t.machine,
        mul-le-mul_left i.machines (greatest_below-bound n (λ j. level_bound i level (level j)) j ((OnceBelow-range n).within k d l)),
      )

  soon_enough : (j : ℕ) → j < n → r.runs.begin j + 1 ≤ levels_bound
  soon_enough = ends_soon i level (IsForest-from i level t r.levels) r.order (no_greater level r.order r.by_level.falls) r.runs.begin r.runs.machine r.runs.runs levels_bound fits

  best_at : IsBestAt i pieces (pos levels_bound)
  best_at = IsBestAt-ends i pieces levels_bound t.crit t.some units.runs.feasible (λ j l. subst (λ x. x ≤ℤ pos levels_bound) (sym (units.runs.ends j l)) (pos-le (soon_enough j l))) (λ s f.
      let (j, b, e) = is_greatest_bound.reached in
      let (k, inside, bound) = law_of_levels i s level (level j) j t.kind t.cut unit_jobs.ones (StepsDown-levels i level t.ends r.levels) f b (omega arith) in
      (k, inside, subst (λ v. (s.unit *ℤ pos v) ≤ℤ end_of s k) e bound))

-- what a schedule of the rule has
pub record IsHuAnswer (i : Instance) (s : Schedule) : Type 0 where
  pub best : IsBestAnswer i s
  pub settled : IsSettled s
  pub cost : (cost : Frac) → IsOver cost (cost_of i s) s.unit → IsLevelCost i cost

pub IsHuAnswer-from : (i : Instance) → i.class ≡ levels_class → Inner i → (pieces : List Piece) → AreByLevel i pieces → IsHuAnswer i (record { unit = pos 1; pieces = pieces })
IsHuAnswer-from i class inner pieces r =
    let t = IsUnitForest-from i class inner in
    let units = units i t pieces r in
    record {
      best = record { best = (best_at i t pieces r).best; answer = one_each_is_answer i units.runs.uncut 1 pieces units.runs.one_each (unit_one (kind_of i.class.env)) };
      settled = list_schedule_is_settled i r.order pieces r.runs;
      cost = λ cost over. (r.level, levels_bound i t pieces r, r.levels, is_greatest_bound i t pieces r, subst (λ x. IsOver cost x (pos 1)) (best_at i t pieces r).cost over);
    }
