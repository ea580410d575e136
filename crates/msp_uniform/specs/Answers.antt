-- The jobs of an instance laid over segments, and the schedule of these. No public contract cites this file.
use Rattle.std.specs.Prelude.{◌≡◌, ℕ, List, length, map, pos, slice_index_or, IsPermutation}
use Rattle.msp_instance.specs.declared.Instance.{Instance}
use Rattle.msp_instance.specs.Instance.{no_need}
use Rattle.msp_pieces.specs.declared.Schedule.{Schedule}
use Rattle.msp_uniform.specs.declared.segments.Segment.{Segment}
use Rattle.msp_uniform.specs.declared.task.Task.{Task}
use Rattle.msp_uniform.specs.Runs.{runs}
use Rattle.msp_uniform.specs.Plans.{IsTask, IsAsked, IsFilled}

abbrev pub AreTimes : Instance → List ℕ → Type 0
AreTimes i times = times ≡ map (λ j. (slice_index_or j.needs 0 no_need).time) i.jobs

-- The task has the times and the speeds of the instance.
pub record IsTaskOf (i : Instance) (t : Task) (jobs machines : List ℕ) : Type 0 where
  pub task : IsTask t
  pub asked : IsAsked t jobs machines
  pub times : AreTimes i t.times.items
  pub speeds : t.speeds.items ≡ i.speeds

abbrev pub IsLaidOut : Instance → ℕ → List Segment → Type 0
IsLaidOut i unit xs = (t : Task) × (jobs : List ℕ) × (machines : List ℕ) × IsTaskOf i t jobs machines × IsFilled t unit xs

abbrev pub IsCutPlan : Instance → Schedule → Type 0
IsCutPlan i s = (unit : ℕ) × (xs : List Segment) × IsLaidOut i unit xs × (s.unit ≡ pos unit) × IsPermutation (runs (length i.jobs) xs i.machines) s.pieces
