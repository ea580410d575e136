-- Segments: lists of jobs that can be done only one list after another, and the law that says how long they take at least.
use Rattle.std.specs.Prelude.{◌≡◌, ◌≢◌, ℕ, ◌+◌, ◌-◌, ◌/◌, ◌<◌, false, List, length, pos, ◌*ℤ◌, ◌≤ℤ◌, All, AllPairs, sum_by}
use Rattle.std.specs.List.{AllAdjacentBelow, flat_map}
use Rattle.msp_class.specs.declared.environments.EnvKind.TheVariants.{Identical}
use Rattle.msp_class.specs.Env.{kind_of}
use Rattle.msp_instance.specs.declared.Instance.{Instance}
use Rattle.msp_instance.specs.Instance.{need_at}
use Rattle.msp_instance.specs.Conditions.{Limits, MeetsConditions}
use Rattle.msp_instance.specs.Paths.{HasPath}
use Rattle.msp_pieces.specs.declared.Schedule.{Schedule}
use Rattle.msp_pieces.specs.Feasible.{Feasible}
use Rattle.msp_pieces.specs.Cost.{end_of}

-- From each of the jobs a path leads to each job of the next list.
abbrev pub LeadTo : Instance → List ℕ → List ℕ → Type 0
LeadTo i jobs next = All (λ j. All (λ k. HasPath i.arcs j k) next) jobs

-- Segments: lists of jobs, none empty, no job twice, and the jobs of each lead to those of the next.
pub record AreSegments (i : Instance) (segments : List (List ℕ)) : Type 0 where
  pub some : All (λ jobs. 0 < length jobs) segments
  pub inside : All (λ jobs. All (λ j. j < length i.jobs) jobs) segments
  pub apart : AllPairs (λ j k. j ≢ k) (flat_map (λ jobs. jobs) segments)
  pub lead : AllAdjacentBelow (LeadTo i) segments (length segments)

-- The numbers of jobs of the lists, each over the number of machines and rounded up, together.
abbrev pub segments_bound : Instance → List (List ℕ) → ℕ
segments_bound i segments = sum_by (λ jobs. (length jobs + (i.machines - 1)) / i.machines) segments

-- The law of segments: on identical machines, where jobs take one unit of time and may not be cut, some job ends no earlier than the
-- bound of segments.
abbrev pub LawOfSegments : Type 0
LawOfSegments = (l : Limits) (i : Instance) (s : Schedule) (segments : List (List ℕ)) → kind_of i.class.env ≡ Identical → i.class.cut ≡ false → ((k : ℕ) → k < length i.jobs → (need_at i k 0).time ≡ 1)
    → MeetsConditions l i → Feasible i s → AreSegments i segments → (k : ℕ) × (k < length i.jobs) × ((s.unit *ℤ pos (segments_bound i segments)) ≤ℤ end_of s k)
