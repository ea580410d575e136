-- What a schedule costs, and when no feasible schedule costs less.
use Rattle.std.specs.Prelude.{ℕ, ◌+◌, List, [], ◌∷◌, ℤ, pos, ◌+ℤ◌, ◌-ℤ◌, ◌*ℤ◌, ◌≤ℤ◌, int_lt, fold, map, filter, unwrap_or, if◌then◌else◌, ◌==◌, sum_by}
use Rattle.std.specs.Int.{int_max}
use Rattle.std.specs.List.{reduce}
use Rattle.msp_class.specs.Crit.{is_greatest}
use Rattle.msp_class.specs.declared.class.Crit.{Crit}
use Rattle.msp_class.specs.declared.class.Crit.TheVariants.{Cmax, Lmax, Fmax, SumC, SumWC, SumU, SumWU, SumT, SumWT}
use Rattle.msp_instance.specs.declared.Curve.{Curve}
use Rattle.msp_instance.specs.declared.Step.{Step}
use Rattle.msp_instance.specs.declared.Job.{Job}
use Rattle.msp_instance.specs.declared.Instance.{Instance}
use Rattle.msp_pieces.specs.declared.Piece.{Piece}
use Rattle.msp_pieces.specs.declared.Schedule.{Schedule}
use Rattle.msp_pieces.specs.declared.Solution.{Solution}
use Rattle.msp_pieces.specs.Feasible.{Feasible, total}
use Rattle.msp_pieces.specs.Fraction.{IsOver}

-- The end of a job: the greatest moment at which a piece of it ends. No moment of a feasible schedule is below 0.
abbrev pub last_end : List Piece → ℕ → ℤ
last_end pieces j = fold int_max (pos 0) (map (λ p. p.to) (filter (λ p. p.job == j) pieces))

abbrev pub end_of : Schedule → ℕ → ℤ
end_of s j = last_end s.pieces j

-- What a step adds at the moment x over the unit: its add where its threshold is below the moment. And what a curve adds in steps.
abbrev pub jump : ℤ → Step → ℤ → ℕ
jump unit s x = if int_lt (unit *ℤ pos s.above) x then s.add else 0

abbrev pub jumps : ℤ → Curve → ℤ → ℕ
jumps unit c x = sum_by (λ s. jump unit s x) c.steps

-- How far the moment x over the unit is after the due date; and 0 where it is not after it.
abbrev pub lateness : ℤ → Job → ℤ → ℤ
lateness unit j x = x -ℤ (unit *ℤ j.due)

abbrev pub tardiness : ℤ → Job → ℤ → ℤ
tardiness unit j x = int_max (pos 0) (lateness unit j x)

-- The unit where the job is late, and else 0.
abbrev pub late : ℤ → Job → ℤ → ℤ
late unit j x = if int_lt (unit *ℤ j.due) x then unit else pos 0

-- What a job costs that ends at the moment x, over the unit.
abbrev pub job_cost : Crit → ℤ → Job → ℤ → ℤ
job_cost Cmax unit j x = x
job_cost Lmax unit j x = lateness unit j x
job_cost Fmax unit j x = (pos j.curve.slope *ℤ x) +ℤ (unit *ℤ (j.curve.base +ℤ pos (jumps unit j.curve x)))
job_cost SumC unit j x = x
job_cost SumWC unit j x = pos j.weight *ℤ x
job_cost SumU unit j x = late unit j x
job_cost SumWU unit j x = pos j.weight *ℤ late unit j x
job_cost SumT unit j x = tardiness unit j x
job_cost SumWT unit j x = pos j.weight *ℤ tardiness unit j x

-- The greatest of some numbers.
abbrev pub greatest : List ℤ → ℤ
greatest xs = unwrap_or (reduce int_max xs) (pos 0)

-- The cost of all jobs together: the greatest cost of a job, or the sum.
abbrev pub combined : Crit → List ℤ → ℤ
combined crit costs = if is_greatest crit then greatest costs else total costs

-- What the jobs cost each, from number k on, where `end` says when each ends.
abbrev pub job_costs : Crit → ℤ → (ℕ → ℤ) → ℕ → List Job → List ℤ
job_costs crit unit end k [] = []
job_costs crit unit end k (j ∷ js) = job_cost crit unit j (end k) ∷ job_costs crit unit end (k + 1) js

-- The cost of a schedule, over its unit.
abbrev pub cost_of : Instance → Schedule → ℤ
cost_of i s = combined i.class.crit (job_costs i.class.crit s.unit (end_of s) 0 i.jobs)

-- The solution's schedule is feasible, and its cost is that of the schedule.
pub record IsSolution (i : Instance) (s : Solution) : Type 0 where
  pub feasible : Feasible i s.schedule
  pub cost : IsOver s.cost (cost_of i s.schedule) s.schedule.unit

-- The schedule is best: it is feasible, and no feasible schedule over any unit costs less.
pub record Best (i : Instance) (s : Schedule) : Type 0 where
  pub feasible : Feasible i s
  pub least : (t : Schedule) → Feasible i t → (cost_of i s *ℤ t.unit) ≤ℤ (cost_of i t *ℤ s.unit)

-- The solution is best: its schedule is, and its cost is that of the schedule.
pub record IsBest (i : Instance) (s : Solution) : Type 0 where
  pub best : Best i s.schedule
  pub cost : IsOver s.cost (cost_of i s.schedule) s.schedule.unit
