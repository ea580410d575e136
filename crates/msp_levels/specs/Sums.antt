-- The class of sums of completion times that the levels solve, how many jobs can have ended by a moment, and what the answers cost.
use Rattle.std.specs.Prelude.{◌≡◌, ℕ, zero, suc, ◌+◌, ◌-◌, ◌*◌, ◌≤◌, min, Bool, true, false, not, ◌==◌, ◌&&◌, List, length, pos, ◌*ℤ◌, int_le}
use Rattle.std.specs.List.{list_any}
use Rattle.msp_class.specs.declared.class.Class.{Class}
use Rattle.msp_class.specs.declared.class.Env.TheVariants.{P as Parallel}
use Rattle.msp_class.specs.declared.class.Order.TheVariants.{Outtree}
use Rattle.msp_class.specs.declared.class.Times.TheVariants.{Unit as UnitTimes}
use Rattle.msp_class.specs.declared.class.Crit.TheVariants.{SumC}
use Rattle.msp_class.specs.Sums.{total_below}
use Rattle.msp_instance.specs.declared.Arc.{Arc}
use Rattle.msp_instance.specs.declared.Instance.{Instance}
use Rattle.msp_pieces.specs.declared.Frac.{Frac}
use Rattle.msp_pieces.specs.declared.Schedule.{Schedule}
use Rattle.msp_pieces.specs.Fraction.{IsOver}
use Rattle.msp_pieces.specs.Feasible.{Feasible}
use Rattle.msp_pieces.specs.Cost.{end_of}
use Rattle.msp_slots.specs.Seating.{one_if}

-- Identical machines, an outtree, neither preemption nor release dates, unit times, and the sum of completion times: `P|outtree,p=1|sumC`.
abbrev pub levels_sum_class : Class
levels_sum_class = record { env = Parallel; cut = false; order = Outtree; heads = false; times = UnitTimes; crit = SumC }

-- Whether k jobs or more are above the job, on the way to the root: a path of k arcs enters it.
abbrev pub has_above : List Arc → ℕ → ℕ → Bool
has_above arcs zero j = true
has_above arcs (suc k) j = list_any (λ a. a.after == j && has_above arcs k a.before) arcs

-- How many jobs have fewer than k above them.
abbrev pub jobs_under : Instance → ℕ → ℕ
jobs_under i k = total_below (length i.jobs) (λ j. one_if (not (has_above i.arcs k j)))

-- The least of the values at the numbers up to t.
abbrev pub least_to : ℕ → (ℕ → ℕ) → ℕ
least_to zero f = f 0
least_to (suc t) f = min (least_to t f) (f (suc t))

-- How many jobs can have ended by the moment t: the least, over the moments k up to t, of the jobs with fewer than k above them and what
-- the machines run from k to t.
abbrev pub most_ended : Instance → ℕ → ℕ
most_ended i t = least_to t (λ k. jobs_under i k + i.machines * (t - k))

-- Added up over the moments from 0 to the number of jobs less 1: the jobs that cannot have ended by then.
abbrev pub least_sum : Instance → ℕ
least_sum i = total_below (length i.jobs) (λ t. length i.jobs - most_ended i t)

abbrev pub IsLeastSum : Instance → Frac → Type 0
IsLeastSum i cost = IsOver cost (pos (least_sum i)) (pos 1)

-- How many jobs have ended by the moment in a schedule.
abbrev pub ended_by : Instance → Schedule → ℕ → ℕ
ended_by i s t = total_below (length i.jobs) (λ j. one_if (int_le (end_of s j) (s.unit *ℤ pos t)))

-- By each moment as many jobs have ended as can, and no more in any feasible schedule.
pub record EndsMost (i : Instance) (s : Schedule) : Type 0 where
  pub here : (t : ℕ) → ended_by i s t ≡ most_ended i t
  pub anywhere : (other : Schedule) (t : ℕ) → Feasible i other → ended_by i other t ≤ most_ended i t
