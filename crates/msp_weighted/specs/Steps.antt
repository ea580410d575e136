-- The steps of the table and of the way back through it, in the words of the structs. No public contract cites this file.
use Rattle.std.specs.Prelude.{◌≡◌, ℕ, ◌+◌, ◌-◌, ◌*◌, ◌<◌, ◌≤◌, ◌⊎◌, Bool, List, [], ◌∷◌, ◌++◌, length, slice_index, AllPairs, IsPermutation, if◌then◌else◌}
use Rattle.msp_instance.specs.declared.Instance.{Instance}
use Rattle.msp_weighted.specs.declared.table.Entry.{Entry}
use Rattle.msp_weighted.specs.declared.table.Table.{Table}
use Rattle.msp_weighted.specs.declared.walk.Choice.{Choice}
use Rattle.msp_weighted.specs.Values.{is_better, is_flagged, is_taken, values_of, IsFilled, IsChosen}

-- Whether the job is worth adding, among these values, so that it ends at the moment.
abbrev pub is_gain : List ℕ → ℕ → ℕ → ℕ → Bool
is_gain values time weight moment = is_better weight (slice_index values (moment - time)) (slice_index values moment)

-- The value at the moment with the job, or without it.
abbrev pub value_at : List ℕ → ℕ → ℕ → ℕ → Bool → ℕ
value_at values time weight moment gains = if gains then slice_index values (moment - time) + weight else slice_index values moment

-- The job was put into the values at the moments from `first` on before `end`, and its flags say where.
pub record IsPutFrom (e : Entry) (first end : ℕ) (values flags values' flags' : List ℕ) : Type 0 where
  pub value : (t : ℕ) → first ≤ t → t < end → slice_index values' t ≡ value_at values e.time e.weight t (is_gain values e.time e.weight t)
  pub kept : (t : ℕ) → (t < first) ⊎ (end ≤ t) → slice_index values' t ≡ slice_index values t
  pub flagged : (t : ℕ) → first ≤ t → t < end → is_flagged flags' (e.row + t) ≡ is_gain values e.time e.weight t
  pub others : (m : ℕ) → (m < e.row + first) ⊎ (e.row + end ≤ m) → is_flagged flags' m ≡ is_flagged flags m

-- The values and the flags of all jobs of the list.
abbrev pub IsTableOf : Instance → List ℕ → ℕ → Table → Type 0
IsTableOf i order width t = IsFilled i order width (length order) t.values.items t.flags.items

-- A row of flags for each job of the list says where the job is worth adding.
abbrev pub AreFlags : Instance → List ℕ → ℕ → List ℕ → Type 0
AreFlags i order width flags = (j t : ℕ) → j < length order → t < width → is_flagged flags (j * width + t) ≡ is_taken i order j t

-- The job is put before those that are on time, or to those that are left.
abbrev pub Takes : ℕ → ℕ → Choice → Choice → Type 0
Takes job time old new = (new.on_time.items ≡ old.on_time.items ++ job ∷ []) × (new.left.items ≡ old.left.items) × (new.moment ≡ old.moment - time)

abbrev pub Leaves : ℕ → Choice → Choice → Type 0
Leaves job old new = (new.on_time.items ≡ old.on_time.items) × (new.left.items ≡ old.left.items ++ job ∷ []) × (new.moment ≡ old.moment)

-- The jobs that gave the value of the moment, and the others.
abbrev pub IsChoiceAt : Instance → List ℕ → ℕ → Choice → Type 0
IsChoiceAt i order moment c = IsChosen i order (values_of i order moment) c.on_time.items c.left.items

-- The jobs that are on time, and then the others, in order.
abbrev pub IsOrderOf : List ℕ → List ℕ → List ℕ → Type 0
IsOrderOf on_time left order = (late : List ℕ) × IsPermutation left late × AllPairs (λ a b. a ≤ b) late × (order ≡ on_time ++ late)
