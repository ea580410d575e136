-- Slots of one or two jobs, and how they are cut into segments. No public contract cites this file.
use Rattle.std.specs.Prelude.{◌≡◌, ℕ, zero, suc, ◌+◌, ◌*◌, ◌<◌, ◌≤◌, ◌⊎◌, Bool, true, false, List, [], ◌∷◌, length, nat_abs, pos, slice_index, All, Contains}
use Rattle.msp_class.specs.declared.sizes.TheConstants.{MOST_JOBS}
use Rattle.msp_instance.specs.declared.Instance.{Instance}
use Rattle.msp_instance.specs.Paths.{HasPath}
use Rattle.msp_pieces.specs.declared.Piece.{Piece}

-- n jobs with labels in slots. A slot has a first job and perhaps a second one, which is a number below n; the test says from which job a
-- path leads to which.
pub record AreSlots (n slots : ℕ) (slot label first second : ℕ → ℕ) (leads : ℕ → ℕ → Bool) : Type 0 where
  pub distinct : (i j : ℕ) → i < n → j < n → label i ≡ label j → i ≡ j
  pub first_in : (x : ℕ) → x < slots → (first x < n) × (slot (first x) ≡ x)
  pub second_in : (x : ℕ) → x < slots → second x < n → (slot (second x) ≡ x) × (label (second x) < label (first x))
  pub only : (j : ℕ) → j < n → (slot j < slots) × ((j ≡ first (slot j)) ⊎ (j ≡ second (slot j)))
  pub later : (i j : ℕ) → i < n → j < n → leads i j ≡ true → slot i < slot j
  pub lower : (i j : ℕ) → i < n → j < n → leads i j ≡ true → label j < label i
  pub joined : (i j k : ℕ) → i < n → j < n → k < n → leads i j ≡ true → leads j k ≡ true → leads i k ≡ true
  -- a job waits for one that is not done, or both jobs of the slot have no lesser label
  pub greedy : (j x : ℕ) → j < n → x < slot j → ((i : ℕ) × (i < n) × (leads i j ≡ true) × (x ≤ slot i)) ⊎ ((second x < n) × (label j ≤ label (second x)))
  -- of two jobs that of greater label leads to the greatest label that only one of them leads to
  pub ranked : (a b y : ℕ) → a < n → b < n → y < n → label b < label a → leads b y ≡ true → leads a y ≡ false → (w : ℕ) × (w < n) × (label y < label w) × (leads a w ≡ true) × (leads b w ≡ false)

-- The least label of the segment that a slot belongs to: that of the slot's first job, where the segment ends, or as in the next slot, where
-- its second job has a greater one.
abbrev pub IsEnd : ℕ → ℕ → (ℕ → ℕ) → (ℕ → ℕ) → (ℕ → ℕ) → (ℕ → ℕ) → ℕ → Type 0
IsEnd n slots label first second top x = (top x ≡ label (first x)) × ((x + 1 ≡ slots) ⊎ ((n ≤ second x) ⊎ (label (second x) ≤ top (x + 1))))

abbrev pub IsInner : ℕ → ℕ → (ℕ → ℕ) → (ℕ → ℕ) → (ℕ → ℕ) → ℕ → Type 0
IsInner n slots label second top x = (top x ≡ top (x + 1)) × (x + 1 < slots) × (second x < n) × (top (x + 1) < label (second x))

abbrev pub AreTops : ℕ → ℕ → (ℕ → ℕ) → (ℕ → ℕ) → (ℕ → ℕ) → (ℕ → ℕ) → Type 0
AreTops n slots label first second top = (x : ℕ) → x < slots → IsEnd n slots label first second top x ⊎ IsInner n slots label second top x

-- The same for a slot by the numbers of its jobs, where the least label in the next slot is known.
abbrev pub IsTopOf : ℕ → (ℕ → ℕ) → ℕ → ℕ → ℕ → ℕ → Type 0
IsTopOf n label first second next top = ((top ≡ label first) × ((n ≤ second) ⊎ (label second ≤ next))) ⊎ ((top ≡ next) × (second < n) × (next < label second))

-- The jobs of the two seats of so many slots from one on; and of so many slots with the first job of the next one.
abbrev pub pairs : (ℕ → ℕ) → (ℕ → ℕ) → ℕ → ℕ → List ℕ
pairs first second x zero = []
pairs first second x (suc d) = first x ∷ second x ∷ pairs first second (x + 1) d

abbrev pub segment : (ℕ → ℕ) → (ℕ → ℕ) → ℕ → ℕ → List ℕ
segment first second x zero = first x ∷ []
segment first second x (suc d) = first x ∷ second x ∷ segment first second (x + 1) d

-- The job that begins at a moment on a machine, where there is one, for the moments before the last job ends.
pub record AreSeats (n : ℕ) (begin machine : ℕ → ℕ) (slots : ℕ) (seat : ℕ → ℕ → ℕ) : Type 0 where
  pub seated : (j : ℕ) → j < n → seat (begin j) (machine j) ≡ j
  pub from_seat : (x m : ℕ) → x < slots → m < 2 → seat x m < n → (begin (seat x m) ≡ x) × (machine (seat x m) ≡ m)
  pub below : (j : ℕ) → j < n → begin j < slots
  pub reached : (x : ℕ) → x < slots → (j : ℕ) × (j < n) × (x ≤ begin j)

-- The place of a piece among the seats: two for each moment, the first machine's before the second's.
abbrev pub place_of : Piece → ℕ
place_of p = 2 * nat_abs p.from + p.machine

-- The piece begins at a whole moment before the limit, on one of two machines.
pub record IsSeated (limit : ℕ) (p : Piece) : Type 0 where
  pub machine : p.machine < 2
  pub from : p.from ≡ pos (nat_abs p.from)
  pub early : nat_abs p.from < limit
  pub job : p.job < limit

-- The seats have the jobs of the pieces, and a number that is no job where there is none.
pub record IsSeating (none : ℕ) (pieces : List Piece) (seats : List ℕ) : Type 0 where
  pub whole : length seats ≡ 2 * MOST_JOBS
  pub seated : All (λ p. slice_index seats (place_of p) ≡ p.job) pieces
  pub others : (k : ℕ) → k < 2 * MOST_JOBS → (slice_index seats k ≡ none) ⊎ ((p : Piece) × Contains pieces p × (place_of p ≡ k) × (p.job ≡ slice_index seats k))

-- The jobs of the first machine and of the second, by the seats.
abbrev pub first_in : List ℕ → ℕ → ℕ
first_in seats x = slice_index seats (2 * x)

abbrev pub second_in : List ℕ → ℕ → ℕ
second_in seats x = slice_index seats (2 * x + 1)

-- All that is known of slots before they are cut into segments.
pub record AreCut (i : Instance) (labels seats tops : List ℕ) (slots : ℕ) : Type 0 where
  pub slot : ℕ → ℕ
  pub leads : ℕ → ℕ → Bool
  pub two : i.machines ≡ 2
  pub few : slots ≤ MOST_JOBS
  pub jobs : length i.jobs ≤ MOST_JOBS
  pub seats_whole : length seats ≡ 2 * MOST_JOBS
  pub are_slots : AreSlots (length i.jobs) slots slot (slice_index labels) (first_in seats) (second_in seats) leads
  pub paths : (j k : ℕ) → j < length i.jobs → k < length i.jobs → leads j k ≡ true → HasPath i.arcs j k
  pub are_tops : AreTops (length i.jobs) slots (slice_index labels) (first_in seats) (second_in seats) (slice_index tops)
