-- What the steps of the rule keep. No public contract cites this file.
use Rattle.std.specs.Prelude.{◌≡◌, ℕ, ◌+◌, ◌*◌, ◌<◌, ◌≤◌, ◌⊎◌, ◌↔◌, IsTrue, Bool, ◌&&◌, leb, List, length, slice_index_or, ℤ, pos, ◌*ℤ◌, ◌≤ℤ◌, ◌<ℤ◌, All, AllPairs}
use Rattle.msp_class.specs.Sums.{total_below}
use Rattle.msp_class.specs.declared.sizes.TheConstants.{MOST_JOBS}
use Rattle.msp_instance.specs.declared.Instance.{Instance}
use Rattle.msp_instance.specs.declared.path_bits.Paths.{Paths}
use Rattle.msp_instance.specs.Instance.{common_time}
use Rattle.msp_instance.specs.Conditions.{Inner, IsSequence, GoesForward}
use Rattle.msp_instance.specs.Paths.{HasPath, ShowsPaths}
use Rattle.msp_pieces.specs.declared.Piece.{Piece}
use Rattle.msp_pieces.specs.Blocks.{cost_at}
use Rattle.msp_slots.specs.Seating.{one_if}
use Rattle.msp_slots.specs.Places.{ArePlaces}
use Rattle.msp_slots.specs.ListSchedule.{IsListSchedule}
use Rattle.msp_due.specs.declared.due_slot.Between.{Between}
use Rattle.msp_due.specs.Due.{tree_class, pair_class}

-- How many numbers below n pass the test.
abbrev pub how_many : ℕ → (ℕ → Bool) → ℕ
how_many n test = total_below n (λ j. one_if (test j))

-- What the job costs that ends when so many slots are over.
abbrev pub cost_in : Instance → ℕ → ℕ → ℤ
cost_in i j slots = cost_at i j (common_time i * slots)

-- The greatest number of slots, up to that of the jobs, after which the job costs at most the bound.
pub record IsDueSlot (i : Instance) (bound : ℤ) (j slot : ℕ) : Type 0 where
  pub most : slot ≤ length i.jobs
  pub met : (c : ℕ) → 1 ≤ c → c ≤ slot → cost_in i j c ≤ℤ bound
  pub beyond : (c : ℕ) → slot < c → c ≤ length i.jobs → bound <ℤ cost_in i j c

-- The first k jobs have these due slots.
abbrev pub AreDueSlots : Instance → ℤ → ℕ → List ℕ → Type 0
AreDueSlots i bound k slots = (j : ℕ) → j < k → IsDueSlot i bound j (slice_index_or slots j 0)

-- The due slot lies between the two.
pub record IsBetween (i : Instance) (bound : ℤ) (j : ℕ) (b : Between) : Type 0 where
  pub met : (c : ℕ) → 1 ≤ c → c ≤ b.met → cost_in i j c ≤ℤ bound
  pub beyond : (c : ℕ) → b.beyond ≤ c → c ≤ length i.jobs → bound <ℤ cost_in i j c
  pub apart : b.met < b.beyond
  pub inside : b.beyond ≤ length i.jobs + 1

-- How many of the jobs to which paths lead from job x are due by slot c.
abbrev pub due_after : ℕ → (ℕ → ℕ → Bool) → (ℕ → ℕ) → ℕ → ℕ → ℕ
due_after n leads low x c = how_many n (λ z. leads x z && leb (low z) c)

-- The greatest slot up to the due slot behind which, for each end before the limit, all that has to come by that end fits on m machines.
pub record IsLowered (ends m : ℕ) (after : ℕ → ℕ) (due slot : ℕ) : Type 0 where
  pub most : slot ≤ due
  pub fits : (c : ℕ) → c < ends → 1 ≤ slot → 1 ≤ after c → after c + m * slot ≤ m * c
  pub greatest : (v : ℕ) → v ≤ due → ((c : ℕ) → c < ends → 1 ≤ after c → after c + m * v ≤ m * c) → v ≤ slot

-- The due slots of all jobs are lowered, each by those of the jobs after it.
abbrev pub AreLowered : ℕ → ℕ → (ℕ → ℕ → Bool) → (ℕ → ℕ) → (ℕ → ℕ) → Type 0
AreLowered n m leads due low = (x : ℕ) → x < n → IsLowered (n + 1) m (due_after n leads low x) (due x) (low x)

-- The jobs whose due slots are lowered so far are those from a place of the order on.
pub record AreLoweredFrom (m : ℕ) (leads : ℕ → ℕ → Bool) (order due : List ℕ) (place : ℕ) (low : List ℕ) : Type 0 where
  pub whole : length low ≡ length due
  pub inside : place ≤ length order
  pub most : (x : ℕ) → slice_index_or low x 0 ≤ slice_index_or due x 0
  pub still : (k : ℕ) → k < place → slice_index_or low (slice_index_or order k 0) 0 ≡ slice_index_or due (slice_index_or order k 0) 0
  pub done : (k : ℕ) → place ≤ k → k < length order → IsLowered (length due + 1) m (due_after (length due) leads (λ z. slice_index_or low z 0) (slice_index_or order k 0))
      (slice_index_or due (slice_index_or order k 0) 0) (slice_index_or low (slice_index_or order k 0) 0)

-- The instance is of one of the two classes, with its paths and an order in which its arcs go forward.
pub record IsReady (i : Instance) (p : Paths) (order : List ℕ) : Type 0 where
  pub inner : Inner i
  pub class : (i.class ≡ tree_class) ⊎ (i.class ≡ pair_class)
  pub paths : ShowsPaths i p
  pub sequence : IsSequence i order
  pub forward : All (GoesForward order) i.arcs

-- The jobs have places at which none of them costs more than the bound.
abbrev pub CanPlace : Instance → ℤ → Type 0
CanPlace i bound = (place : ℕ → ℕ) × ArePlaces i place × ((j : ℕ) → j < length i.jobs → cost_in i j (place j + 1) ≤ℤ bound)

-- The schedule in slots by the lowered due slots for a bound, ties by number.
pub record IsListed (i : Instance) (bound : ℤ) (low : List ℕ) (pieces : List Piece) : Type 0 where
  pub leads : ℕ → ℕ → Bool
  pub due : ℕ → ℕ
  pub order : List ℕ
  pub whole : length low ≡ length i.jobs
  pub shows : (j k : ℕ) → j < length i.jobs → k < length i.jobs → IsTrue (leads j k) ↔ HasPath i.arcs j k
  pub dues : (j : ℕ) → j < length i.jobs → IsDueSlot i bound j (due j)
  pub lowered : AreLowered (length i.jobs) i.machines leads due (λ j. slice_index_or low j 0)
  pub schedule : IsListSchedule i order pieces
  pub rising : AllPairs (λ a b. (slice_index_or low a 0 < slice_index_or low b 0) ⊎ ((slice_index_or low a 0 ≡ slice_index_or low b 0) × (a ≤ b))) order

-- The number is the greatest cost of the first k jobs, where they end when so many slots are over.
pub record IsGreatestCost (i : Instance) (slots k : ℕ) (cost : ℤ) : Type 0 where
  pub reached : (j : ℕ) × (j < k) × (cost_in i j slots ≡ cost)
  pub greatest : (j : ℕ) → j < k → cost_in i j slots ≤ℤ cost

-- The piece lies in the first MOST_JOBS slots.
abbrev pub IsInSlots : Piece → Type 0
IsInSlots p = (pos 0 ≤ℤ p.from) × (p.from ≤ℤ p.to) × (p.to ≤ℤ pos MOST_JOBS)

-- The piece where each slot lasts so long.
abbrev pub long_piece : ℕ → Piece → Piece
long_piece time p = record p { from = p.from *ℤ pos time; to = p.to *ℤ pos time }
