-- Whole places of jobs that all take one time.
use Rattle.std.specs.Prelude.{◌≡◌, ℕ, ◌+◌, ◌*◌, ◌<◌, ◌≤◌, ◌⊎◌, false, length, pos, ◌*ℤ◌, ◌≤ℤ◌, All}
use Rattle.msp_class.specs.declared.environments.EnvKind.TheVariants.{Identical, Unrelated}
use Rattle.msp_class.specs.Env.{kind_of}
use Rattle.msp_instance.specs.declared.Instance.{Instance}
use Rattle.msp_instance.specs.Instance.{job_at, common_time}
use Rattle.msp_instance.specs.Conditions.{Limits, MeetsConditions}
use Rattle.msp_pieces.specs.declared.Schedule.{Schedule}
use Rattle.msp_pieces.specs.Feasible.{Feasible}
use Rattle.msp_pieces.specs.Cost.{end_of}
use Rattle.msp_slots.specs.Seating.{begin_at}

-- Each job has a place, from 0: before those of the jobs that it must precede, shared by no more jobs than there are machines, and below the
-- number of jobs.
pub record ArePlaces (i : Instance) (place : ℕ → ℕ) : Type 0 where
  pub few : (x : ℕ) → begin_at (length i.jobs) place x ≤ i.machines
  pub forward : All (λ a. place a.before < place a.after) i.arcs
  pub early : (j : ℕ) → j < length i.jobs → place j < length i.jobs

-- Every need of every job takes the common time.
abbrev pub TakeCommonTime : Instance → Type 0
TakeCommonTime i = (j : ℕ) → j < length i.jobs → All (λ n. n.time ≡ common_time i) (job_at i j).needs

-- No job ends before as many common times are over as its place says, and its own.
abbrev pub EndAfterPlaces : Instance → Schedule → (ℕ → ℕ) → Type 0
EndAfterPlaces i s place = (j : ℕ) → j < length i.jobs → (s.unit *ℤ pos (common_time i * (place j + 1))) ≤ℤ end_of s j

-- The law of places: where jobs that may not be cut all take one time, on identical or unrelated machines, the jobs of any feasible schedule
-- have places, and none of them ends before its place is over.
abbrev pub LawOfPlaces : Type 0
LawOfPlaces = (l : Limits) (i : Instance) (s : Schedule) → (kind_of i.class.env ≡ Identical) ⊎ (kind_of i.class.env ≡ Unrelated) → i.class.cut ≡ false
    → MeetsConditions l i → TakeCommonTime i → Feasible i s → (place : ℕ → ℕ) × ArePlaces i place × EndAfterPlaces i s place
