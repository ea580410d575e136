-- Three laws of feasible schedules on one machine and on identical machines.
use Rattle.std.specs.Prelude.{◌≡◌, ℕ, ◌/◌, ◌<◌, ◌≤◌, Bool, true, false, length, map, ℤ, pos, nat_abs, ◌+ℤ◌, ◌-ℤ◌, ◌*ℤ◌, ◌≤ℤ◌, All, sum_by, count_by, min, if◌then◌else◌}
use Rattle.std.specs.List.{range_with_len}
use Rattle.msp_class.specs.declared.environments.EnvKind.TheVariants.{Identical}
use Rattle.msp_class.specs.Env.{kind_of}
use Rattle.msp_instance.specs.declared.Instance.{Instance}
use Rattle.msp_instance.specs.Instance.{need_at}
use Rattle.msp_pieces.specs.declared.Piece.{Piece}
use Rattle.msp_pieces.specs.declared.Schedule.{Schedule}
use Rattle.msp_pieces.specs.Feasible.{Feasible}
use Rattle.msp_pieces.specs.Cost.{end_of}

-- How long the jobs that pass a test take together.
abbrev pub time_together : Instance → (ℕ → Bool) → ℕ
time_together i test = sum_by (λ j. if test j then (need_at i j 0).time else 0) (range_with_len 0 (length i.jobs))

-- Between the moments `begin` and `end` all machines together have as much time as the jobs that pass the test take.
abbrev pub HasRoom : Instance → Schedule → (ℕ → Bool) → ℤ → ℤ → Type 0
HasRoom i s test begin end = (s.unit *ℤ pos (time_together i test)) ≤ℤ (pos i.machines *ℤ (end -ℤ begin))

-- No piece of a job that passes the test begins before the moment.
abbrev pub BeginsFrom : ℤ → (ℕ → Bool) → Schedule → Type 0
BeginsFrom moment test s = All (λ p. test p.job ≡ true → moment ≤ℤ p.from) s.pieces

-- All jobs that pass the test end by the moment.
abbrev pub EndBy : Instance → Schedule → (ℕ → Bool) → ℤ → Type 0
EndBy i s test end = (j : ℕ) → j < length i.jobs → test j ≡ true → end_of s j ≤ℤ end

-- Each job takes time; and each takes one unit of it.
abbrev pub TakeTime : Instance → Type 0
TakeTime i = (j : ℕ) → j < length i.jobs → 1 ≤ (need_at i j 0).time

abbrev pub TakeOneUnit : Instance → Type 0
TakeOneUnit i = (j : ℕ) → j < length i.jobs → (need_at i j 0).time ≡ 1

-- The job passes the test, and no job that passes it ends later.
pub record EndsLast (i : Instance) (s : Schedule) (test : ℕ → Bool) (k : ℕ) : Type 0 where
  pub inside : k < length i.jobs
  pub passes : test k ≡ true
  pub latest : EndBy i s test (end_of s k)

-- The law of ends: some jobs that do not begin before a moment end only when all machines together have had the time for them.
pub record LawOfEnds : Type 0 where
  -- at any moment by which they all end
  pub room : (i : Instance) (s : Schedule) (test : ℕ → Bool) (begin end : ℤ)
      → kind_of i.class.env ≡ Identical → Feasible i s → pos 0 ≤ℤ begin → begin ≤ℤ end
      → BeginsFrom begin test s → EndBy i s test end → HasRoom i s test begin end
  -- at the greatest of their ends, where there is such a job, and jobs take time
  pub last : (i : Instance) (s : Schedule) (test : ℕ → Bool) (begin : ℤ)
      → kind_of i.class.env ≡ Identical → Feasible i s → pos 0 ≤ℤ begin → BeginsFrom begin test s
      → TakeTime i → (j : ℕ) → j < length i.jobs → test j ≡ true
      → (k : ℕ) × EndsLast i s test k × HasRoom i s test begin (end_of s k)

-- How many jobs pass a test.
abbrev pub jobs_together : Instance → (ℕ → Bool) → ℕ
jobs_together i test = count_by test (range_with_len 0 (length i.jobs))

-- Up to the moment `end` the machines that the jobs that pass the test can use, no more than the jobs are, have as much time as they take.
abbrev pub HasTimeFor : Instance → Schedule → (ℕ → Bool) → ℤ → Type 0
HasTimeFor i s test end = (s.unit *ℤ pos (time_together i test)) ≤ℤ (pos (min (jobs_together i test) i.machines) *ℤ end)

-- The law of groups: jobs on identical machines, cut or not, end only when as many machines as they can use have had the time for them.
pub record LawOfGroups : Type 0 where
  -- at any moment by which they all end
  pub room : (i : Instance) (s : Schedule) (test : ℕ → Bool) (end : ℤ)
      → kind_of i.class.env ≡ Identical → Feasible i s → pos 0 ≤ℤ end → EndBy i s test end → HasTimeFor i s test end
  -- at the greatest of their ends, where there is such a job
  pub last : (i : Instance) (s : Schedule) (test : ℕ → Bool)
      → kind_of i.class.env ≡ Identical → Feasible i s → (j : ℕ) → j < length i.jobs → test j ≡ true
      → (k : ℕ) × EndsLast i s test k × HasTimeFor i s test (end_of s k)

-- The greatest multiple of the unit that is not after the moment, where the moment is at least 0 and the unit at least 1.
abbrev pub floor : ℤ → ℤ → ℤ
floor unit x = unit *ℤ pos (nat_abs x / nat_abs unit)

-- Each piece moved to begin there, and to last one unit.
abbrev pub floored_piece : ℤ → Piece → Piece
floored_piece unit p = record p { from = floor unit p.from; to = floor unit p.from +ℤ unit }

abbrev pub floored : Schedule → Schedule
floored s = record { unit = s.unit; pieces = map (floored_piece s.unit) s.pieces }

-- The law of floors: where jobs take one unit of time and may not be cut, it is feasible to begin each at a multiple of the unit, and
-- no job ends later.
abbrev pub LawOfFloors : Type 0
LawOfFloors = (i : Instance) (s : Schedule)
    → kind_of i.class.env ≡ Identical → i.class.cut ≡ false → TakeOneUnit i → Feasible i s
    → Feasible i (floored s) × ((j : ℕ) → end_of (floored s) j ≤ℤ end_of s j)
