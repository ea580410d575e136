-- The changes that the rows to unrelated machines make.
use Rattle.std.specs.Prelude.{ℕ, ◌*◌, ◌/◌, ◌≤◌, List, [], length, pos, ◌*ℤ◌, slice_index_or, map, All}
use Rattle.std.specs.List.{range_with_len}
use Rattle.msp_class.specs.declared.sizes.TheConstants.{GREATEST}
use Rattle.msp_instance.specs.declared.Need.{Need}
use Rattle.msp_instance.specs.declared.Step.{Step}
use Rattle.msp_instance.specs.declared.Curve.{Curve}
use Rattle.msp_instance.specs.declared.Job.{Job}
use Rattle.msp_instance.specs.declared.Instance.{Instance}
use Rattle.msp_instance.specs.Instance.{no_need}
use Rattle.msp_instance.specs.Conditions.{LiesWithin}
use Rattle.msp_pieces.specs.declared.Piece.{Piece}
use Rattle.msp_pieces.specs.declared.Schedule.{Schedule}
use Rattle.msp_route.specs.Changes.{led}
use Rattle.msp_route.specs.Rates.{least_common_multiple}

-- One need on each of some machines, in order, with the time there.
abbrev pub need_on : (ℕ → ℕ) → ℕ → Need
need_on time m = record { machine = m; time = time m }

abbrev pub needs_by : ℕ → (ℕ → ℕ) → List Need
needs_by machines time = map (need_on time) (range_with_len 0 machines)

-- The time of a job with one need.
abbrev pub only_time : Job → ℕ
only_time j = (slice_index_or j.needs 0 no_need).time

-- ---- from identical machines
-- The job takes its time on each machine.
abbrev pub on_each_machine : ℕ → Job → Job
on_each_machine machines j = record j { needs = needs_by machines (λ m. only_time j) }

-- The instance to which the rows from identical machines lead.
abbrev pub led_to_each : ℕ → Instance → Instance
led_to_each row i = record (led row i) { jobs = map (on_each_machine i.machines) i.jobs }

-- ---- from uniform machines
-- A step and a curve with times and costs multiplied by the factor. The slope stays, since the time that it multiplies grows.
abbrev pub stretched_step : ℕ → Step → Step
stretched_step factor s = record { above = factor * s.above; add = factor * s.add }

abbrev pub stretched_curve : ℕ → Curve → Curve
stretched_curve factor c = record {
  slope = c.slope;
  base = pos factor *ℤ c.base;
  steps = map (stretched_step factor) c.steps;
}

-- Numbers that may be multiplied.
pub record IsStretchable (a : Job) : Type 0 where
  pub time : only_time a ≤ GREATEST
  pub release : a.release ≤ 2 * GREATEST
  pub due : LiesWithin (2 * GREATEST) a.due
  pub base : LiesWithin (2 * GREATEST) a.curve.base
  pub steps : All (λ s. (s.above ≤ GREATEST) × (s.add ≤ GREATEST)) a.curve.steps

-- The job with its times multiplied by the factor, a multiple of all speeds. On each machine its time is divided by the speed there.
abbrev pub stretched : ℕ → List ℕ → Job → Job
stretched factor speeds j = record {
  release = factor * j.release;
  due = pos factor *ℤ j.due;
  weight = j.weight;
  needs = needs_by (length speeds) (λ m. only_time j * (factor / slice_index_or speeds m 0));
  curve = stretched_curve factor j.curve;
}

-- The instance to which the rows from uniform machines lead: all times are multiplied by the least common multiple of the speeds.
abbrev pub led_by_speeds : ℕ → Instance → Instance
led_by_speeds row i = record (led row i) { speeds = []; jobs = map (stretched (least_common_multiple i.speeds) i.speeds) i.jobs }

-- The schedule with all moments multiplied by the factor; and with the unit multiplied, so that each moment stands for a time as much
-- earlier.
abbrev pub stretched_piece : ℕ → Piece → Piece
stretched_piece factor p = record p { from = pos factor *ℤ p.from; to = pos factor *ℤ p.to }

abbrev pub stretched_schedule : ℕ → Schedule → Schedule
stretched_schedule factor s = record { unit = s.unit; pieces = map (stretched_piece factor) s.pieces }

abbrev pub shrunk_schedule : ℕ → Schedule → Schedule
shrunk_schedule factor s = record { unit = s.unit *ℤ pos factor; pieces = s.pieces }
