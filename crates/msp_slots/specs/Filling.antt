-- The slots of the earliest schedule as they are found one after another. No public contract cites this file.
use Rattle.std.specs.Prelude.{◌≡◌, ℕ, ◌+◌, ◌*◌, ◌<◌, ◌≤◌, ◌⊎◌, List, length}
use Rattle.msp_class.specs.declared.sizes.TheConstants.{GREATEST}
use Rattle.msp_slots.specs.declared.earliest.Slot.{Slot}
use Rattle.msp_slots.specs.Seating.{begin_at, IsSeated, IsTight, Rises}
use Rattle.msp_slots.specs.Earliest.{start_in, machine_in, head_in}

-- The slot after those of which the last begin at the moment, so many at that moment: at the release date, at the moment where a machine is
-- left, or else one unit of time later.
abbrev pub IsNextSlot : ℕ → ℕ → ℕ → ℕ → Slot → Type 0
IsNextSlot moment taken machines head s =
    ((moment < head) × (s.start ≡ head) × (s.machine ≡ 0))
    ⊎ (((head ≤ moment) × (taken < machines) × (s.start ≡ moment) × (s.machine ≡ taken)) ⊎ ((head ≤ moment) × (machines ≤ taken) × (s.start ≡ moment + 1) × (s.machine ≡ 0)))

-- The slots for the first k release dates, the last of which begin at the moment, so many at that moment.
pub record AreFilled (machines : ℕ) (heads : List ℕ) (k moment taken : ℕ) (slots : List Slot) : Type 0 where
  pub count : length slots ≡ k
  pub seated : IsSeated k machines (head_in heads) (start_in slots)
  pub tight : IsTight k machines (head_in heads) (start_in slots)
  pub rises : Rises k (start_in slots)
  -- at one time the machines are taken in order
  pub machine : (j : ℕ) → j < k → machine_in slots j ≡ begin_at j (start_in slots) (start_in slots j)
  pub early : (j : ℕ) → j < k → start_in slots j ≤ moment
  -- before the moment all machines are taken once all jobs are released
  pub full : (x : ℕ) → ((j : ℕ) → j < k → head_in heads j ≤ x) → x < moment → machines ≤ begin_at k (start_in slots) x
  pub used : begin_at k (start_in slots) moment ≡ taken
  -- and no release date is later than the greatest one of an instance
  pub soon : moment ≤ 2 * GREATEST + k
