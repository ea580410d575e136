-- The search for the least bound on the greatest lateness, and schedules brought back to the kept moments. No public contract cites this
-- file.
use Rattle.std.specs.Prelude.{◌≡◌, ℕ, ◌/◌, ◌<◌, ◌≤◌, List, length, ℤ, ◌≤ℤ◌, nat_abs, map, slice_index_or, All, IsPermutation}
use Rattle.std.specs.List.{range_with_len}
use Rattle.msp_class.specs.declared.class.Class.{Class}
use Rattle.msp_instance.specs.declared.Job.{Job}
use Rattle.msp_instance.specs.declared.Instance.{Instance}
use Rattle.msp_instance.specs.Conditions.{Inner}
use Rattle.msp_pieces.specs.declared.Piece.{Piece}
use Rattle.msp_pieces.specs.declared.Schedule.{Schedule}
use Rattle.msp_instance.specs.Instance.{no_job}
use Rattle.msp_slots.specs.declared.earliest.Slot.{Slot}
use Rattle.msp_slots.specs.Earliest.{start_in, AreSlots}
use Rattle.msp_slots.specs.Pieces.{piece_at}
use Rattle.msp_threshold.specs.Squeezed.{lateness_class, late_count_class, HoldsSqueezed, HasTime}

-- A solver of the class that can solve these instances can be asked whether a bound can be met.
pub record CanAsk (solved : Class) (can_solve : Instance → Type 0) (i : Instance) : Type 0 where
  pub solves : solved ≡ late_count_class
  pub inner : Inner i
  pub class : i.class ≡ lateness_class
  pub fits : HoldsSqueezed can_solve i

-- The number of the whole unit of time in which the piece begins; and the piece at the kept moment of that number.
abbrev pub number_of : ℤ → Piece → ℕ
number_of unit p = nat_abs p.from / nat_abs unit

abbrev pub piece_back : List ℕ → ℤ → Piece → Piece
piece_back kept unit p = piece_at (slice_index_or kept (number_of unit p) 0) p.machine p.job

abbrev pub pieces_back : List ℕ → Schedule → List Piece
pieces_back kept s = map (piece_back kept s.unit) s.pieces

-- The job at place k of the order.
abbrev pub job_in : List Job → List ℕ → ℕ → Job
job_in jobs order k = slice_index_or jobs (slice_index_or order k 0) no_job

abbrev pub IsReleased : List Job → List ℕ → ℕ → ℕ → Type 0
IsReleased jobs order moment k = (job_in jobs order k).release ≤ moment

-- Each job in the order is released when the slot of its place begins.
abbrev pub AreReleased : List Job → List Slot → List ℕ → Type 0
AreReleased jobs slots order = (k : ℕ) → k < length order → IsReleased jobs order (start_in slots k) k

-- The jobs in this order take the slots of the earliest schedule.
pub record AreInSlots (i : Instance) (slots : List Slot) (order : List ℕ) : Type 0 where
  pub heads : List ℕ
  pub filled : AreSlots i.machines heads slots
  pub count : length slots ≡ length i.jobs
  pub all : IsPermutation (range_with_len 0 (length i.jobs)) order
  pub released : AreReleased i.jobs slots order

-- The number is the least bound for which each job has time.
pub record IsLowest (jobs : List Job) (lowest : ℤ) : Type 0 where
  pub time : All (HasTime lowest) jobs
  pub least : (bound : ℤ) → All (HasTime bound) jobs → lowest ≤ℤ bound
