-- Jobs in slots of the earliest schedule, each in one of its own, all together at least cost. No public contract cites this file.
use Rattle.std.specs.Prelude.{◌≡◌, ℕ, ◌-◌, ◌*◌, ◌≤◌, Bool, true, false, List, length, map, pos, ◌-ℤ◌, All, IsPermutation}
use Rattle.msp_class.specs.declared.sizes.TheConstants.{MOST_JOBS, GREATEST}
use Rattle.msp_class.specs.declared.class.Crit.{Crit}
use Rattle.msp_class.specs.declared.class.Crit.TheVariants.{SumWT, SumWU}
use Rattle.msp_instance.specs.declared.Instance.{Instance}
use Rattle.msp_instance.specs.Conditions.{LiesWithin}
use Rattle.msp_slots.specs.declared.earliest.Slot.{Slot}
use Rattle.msp_slots.specs.Earliest.{AreSlots}
use Rattle.msp_assign.specs.Prices.{IsAssigned, IsLeast}
use Rattle.msp_total.specs.declared.slot_table.Slots.{Slots}
use Rattle.msp_total.specs.Slots.{slot_cost}

-- What costs: the weighted tardiness, or where `late` is false, the weighted number of late jobs.
abbrev pub slot_crit : Bool → Crit
slot_crit true = SumWT
slot_crit false = SumWU

-- There are jobs, and their numbers are within limits.
pub record HasSmallDates (i : Instance) : Type 0 where
  pub some : 1 ≤ length i.jobs
  pub few : length i.jobs ≤ MOST_JOBS
  pub releases : All (λ j. j.release ≤ 2 * GREATEST) i.jobs
  pub dues : All (λ j. LiesWithin (2 * GREATEST) j.due) i.jobs
  pub weights : All (λ j. j.weight ≤ GREATEST) i.jobs

-- The table is that of the jobs in the slots. A job ends the span after its slot begins, which itself lasts one unit of time.
pub record IsTable (i : Instance) (late : Bool) (span : ℕ) (slots : List Slot) (table : Slots) : Type 0 where
  pub kind : table.late ≡ late
  pub start : table.start ≡ map (λ s. s.start) slots
  pub release : table.release ≡ map (λ j. j.release) i.jobs
  pub due : table.due ≡ map (λ j. j.due -ℤ pos (span - 1)) i.jobs
  pub weight : table.weight ≡ map (λ j. j.weight) i.jobs

-- The slots are those of the earliest schedule on so many machines, and each job has the one of its column, at least cost.
pub record AreLeastSlots (i : Instance) (late : Bool) (machines span : ℕ) (slots : List Slot) (column : List ℕ) : Type 0 where
  pub heads : List ℕ
  pub table : Slots
  pub all : IsPermutation (map (λ j. j.release) i.jobs) heads
  pub filled : AreSlots machines heads slots
  pub is_table : IsTable i late span slots table
  pub assigned : IsAssigned (length i.jobs) (length i.jobs) column
  pub least : IsLeast (length i.jobs) (length i.jobs) (slot_cost table) column
