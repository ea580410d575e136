-- The classes that the slot solvers solve, and what a job costs in a slot.
use Rattle.std.specs.Prelude.{ℕ, ◌+◌, ◌^◌, Bool, true, false, nat_lt, ℤ, pos, ◌-ℤ◌, ◌*ℤ◌, int_lt, slice_index_or, if◌then◌else◌}
use Rattle.std.specs.Int.{int_max}
use Rattle.msp_class.specs.declared.class.Class.{Class}
use Rattle.msp_class.specs.declared.class.Env.TheVariants.{P as Parallel}
use Rattle.msp_class.specs.declared.class.Order.TheVariants.{Free}
use Rattle.msp_class.specs.declared.class.Times.TheVariants.{Unit as UnitTimes}
use Rattle.msp_class.specs.declared.class.Crit.TheVariants.{SumWT, SumWU}
use Rattle.msp_total.specs.declared.slot_table.Slots.{Slots}

-- Identical machines, neither preemption nor precedence, release dates, unit times, and the total weighted tardiness:
-- `P|r,p=1|sumwT`.
abbrev pub tardiness_class : Class
tardiness_class = record { env = Parallel; cut = false; order = Free; heads = true; times = UnitTimes; crit = SumWT }

-- The same by the weighted number of late jobs: `P|r,p=1|sumwU`.
abbrev pub late_jobs_class : Class
late_jobs_class = record tardiness_class { crit = SumWU }

-- More than any schedule costs, which is at most MOST_JOBS * GREATEST * (10 * GREATEST).
abbrev pub forbidden : ℤ
forbidden = pos (2 ^ 90)

-- The most, in size, that the end of a slot is past a due date, of whichever numbers of 64 bits.
abbrev pub greatest_past : ℕ
greatest_past = 2 ^ 66

-- How far the end is past the due date, or whether it is.
abbrev pub past_due : Bool → ℤ → ℤ → ℤ
past_due true end due = int_max (pos 0) (end -ℤ due)
past_due false end due = if int_lt due end then pos 1 else pos 0

-- What job j costs in slot k, which lasts one unit of time. It may not begin before its release date.
abbrev pub slot_cost : Slots → ℕ → ℕ → ℤ
slot_cost s j k =
    if nat_lt (slice_index_or s.start k 0) (slice_index_or s.release j 0)
    then forbidden
    else pos (slice_index_or s.weight j 0) *ℤ past_due s.late (pos (slice_index_or s.start k 0 + 1)) (slice_index_or s.due j (pos 0))
