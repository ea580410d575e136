-- The table of the weight that is on time, for each total time, and the choice of jobs that it gives. No public contract cites this file.
--
-- A value is one more than a weight, and 0 where no choice of jobs takes the time.
use Rattle.std.specs.Prelude.{◌≡◌, ℕ, ◌+◌, ◌-◌, ◌*◌, ◌/◌, ◌%◌, ◌<◌, ◌≤◌, Bool, false, not, ◌&&◌, ◌==◌, List, [], ◌∷◌, ◌++◌, length, take, filter, reverse, slice_index, ℤ, pos}
use Rattle.std.specs.Prelude.{int_lt, nat_lt, nat_le, AllPairs, IsPermutation, sum_by, if◌then◌else◌}
use Rattle.std.specs.Int.{bit_at}
use Rattle.std.specs.List.{range_with_len}
use Rattle.msp_instance.specs.declared.Instance.{Instance}
use Rattle.msp_instance.specs.Instance.{job_at}
use Rattle.msp_pieces.specs.BackToBack.{time_at}
use Rattle.msp_route.specs.Dates.{IsDueBefore}
use Rattle.msp_weighted.specs.Late.{EndInTime}

abbrev pub weight_at : Instance → ℕ → ℕ
weight_at i j = (job_at i j).weight

-- A job of some weight is worth adding to what has the value `before`, where the value at its end is `now`.
abbrev pub is_better : ℕ → ℕ → ℕ → Bool
is_better weight before now = nat_lt 0 before && nat_lt now (before + weight)

-- A job may end at the moment t, and is worth adding there.
unfoldable pub gains : ℕ → ℕ → ℤ → (ℕ → ℕ) → ℕ → Bool
gains time weight due values t = nat_le time t && (not (int_lt due (pos t)) && is_better weight (values (t - time)) (values t))

-- The value at the moment t with the job.
unfoldable pub value_with : ℕ → ℕ → ℤ → (ℕ → ℕ) → ℕ → ℕ
value_with time weight due values t = if gains time weight due values t then values (t - time) + weight else values t

-- The values after the jobs of a list.
abbrev pub values_after : Instance → (ℕ → ℕ) → List ℕ → ℕ → ℕ
values_after i values [] = values
values_after i values (j ∷ js) = values_after i (value_with (time_at i j) (weight_at i j) (job_at i j).due values) js

-- Without jobs only the time 0 is taken.
abbrev pub first_value : ℕ → ℕ
first_value t = if t == 0 then 1 else 0

abbrev pub values_of : Instance → List ℕ → ℕ → ℕ
values_of i = values_after i first_value

-- Whether the job at the place k is worth adding at the moment t, after those before it.
abbrev pub is_taken : Instance → List ℕ → ℕ → ℕ → Bool
is_taken i order k t = gains (time_at i (slice_index order k)) (weight_at i (slice_index order k)) (job_at i (slice_index order k)).due (values_of i (take k order)) t

-- The bit of a number in words.
unfoldable pub is_flagged : List ℕ → ℕ → Bool
is_flagged words n = bit_at (slice_index words (n / 64)) (n % 64) == 1

-- Of so many values each that is not 0 stands in a block of 64 that has a flag.
abbrev pub AreReached : ℕ → List ℕ → List ℕ → Type 0
AreReached width values reached = (t : ℕ) → t < width → is_flagged reached (t / 64) ≡ false → slice_index values t ≡ 0

-- A job was put into the values, and a row of flags says where.
pub record IsPut (time weight : ℕ) (due : ℤ) (row width : ℕ) (values flags values' flags' : List ℕ) : Type 0 where
  pub value : (t : ℕ) → t < width → slice_index values' t ≡ value_with time weight due (slice_index values) t
  pub flagged : (t : ℕ) → t < width → is_flagged flags' (row + t) ≡ gains time weight due (slice_index values) t
  pub before : (m : ℕ) → m < row → is_flagged flags' m ≡ is_flagged flags m
  pub behind : (m : ℕ) → row + width ≤ m → is_flagged flags' m ≡ is_flagged flags m

-- The values after the first k jobs of a list, and a row of flags for each of them.
pub record IsFilled (i : Instance) (order : List ℕ) (width k : ℕ) (values flags : List ℕ) : Type 0 where
  pub value : (t : ℕ) → t < width → slice_index values t ≡ values_of i (take k order) t
  pub flagged : (j t : ℕ) → j < k → t < width → is_flagged flags (j * width + t) ≡ is_taken i order j t
  pub clear : (m : ℕ) → k * width ≤ m → is_flagged flags m ≡ false

-- A list is split in two that keep its order.
pub data IsSplit : List ℕ → List ℕ → List ℕ → Type 0 where
  empty : IsSplit [] [] []
  first : (x : ℕ) {xs ys zs : List ℕ} → IsSplit xs ys zs → IsSplit (x ∷ xs) (x ∷ ys) zs
  second : (x : ℕ) {xs ys zs : List ℕ} → IsSplit xs ys zs → IsSplit (x ∷ xs) ys (x ∷ zs)

-- The jobs of a list that are chosen, and the others from the last one on: the chosen ones are on time back to back, and weigh a value less 1.
pub record IsChosen (i : Instance) (order : List ℕ) (value : ℕ) (on_time left : List ℕ) : Type 0 where
  pub split : IsSplit order on_time (reverse left)
  pub in_time : EndInTime i 0 on_time
  pub weight : value ≡ 1 + sum_by (weight_at i) on_time

-- All jobs, each once: of the jobs by due date those chosen ones, of greatest weight, that are on time back to back, and then the others by number.
pub record IsTableOrder (i : Instance) (order : List ℕ) : Type 0 where
  pub by_date : List ℕ
  pub on_time : List ℕ
  pub left : List ℕ
  pub late : List ℕ
  pub all : IsPermutation (range_with_len 0 (length i.jobs)) by_date
  pub sorted : AllPairs (IsDueBefore i) by_date
  pub split : IsSplit by_date on_time left
  pub in_time : EndInTime i 0 on_time
  pub most : (test : ℕ → Bool) → EndInTime i 0 (filter test by_date) → sum_by (weight_at i) (filter test by_date) ≤ sum_by (weight_at i) on_time
  pub moved : IsPermutation left late
  pub by_number : AllPairs (λ a b. a ≤ b) late
  pub whole : order ≡ on_time ++ late
