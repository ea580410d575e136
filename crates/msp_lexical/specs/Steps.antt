-- What the steps of the rule keep. No public contract cites this file.
use Rattle.std.specs.Prelude.{◌≡◌, ◌≢◌, ℕ, ◌+◌, ◌-◌, ◌<◌, ◌≤◌, ◌⊎◌, Bool, true, false, List, length, slice_index, All, AllPairs, Contains, IsTrue, ◌↔◌}
use Rattle.msp_instance.specs.declared.Instance.{Instance}
use Rattle.msp_class.specs.declared.sizes.TheConstants.{MOST_JOBS}
use Rattle.msp_instance.specs.Paths.{HasStep, HasPath}
use Rattle.msp_pieces.specs.declared.Piece.{Piece}
use Rattle.msp_slots.specs.ListSchedule.{IsListSchedule}

-- An arc leads from the job to one of the jobs.
abbrev pub HasSuccessor : Instance → List ℕ → ℕ → Type 0
HasSuccessor i jobs j = (k : ℕ) × HasStep i.arcs j k × Contains jobs k

-- The labels of the jobs to which b leads are no more than those of a: of the labels below the limit that only one of the two leads to, a
-- leads to the greatest.
abbrev pub Outranks : ℕ → (ℕ → ℕ → Bool) → (ℕ → ℕ) → ℕ → ℕ → ℕ → Type 0
Outranks n leads label limit a b = (j : ℕ) → j < n → label j < limit
    → leads b j ≡ true → leads a j ≡ false → (k : ℕ) × (k < n) × (label k < limit) × (label j < label k) × (leads a k ≡ true) × (leads b k ≡ false)

-- The jobs have different labels, those of successors are less, and a greater label stands for greater labels of the jobs led to.
pub record AreLabels (i : Instance) (leads : ℕ → ℕ → Bool) (label : ℕ → ℕ) : Type 0 where
  pub small : (j : ℕ) → j < length i.jobs → label j < length i.jobs
  pub distinct : (j k : ℕ) → j < length i.jobs → k < length i.jobs → label j ≡ label k → j ≡ k
  pub lower : All (λ a. label a.after < label a.before) i.arcs
  pub ranked : (a b : ℕ) → a < length i.jobs → b < length i.jobs → label b < label a → Outranks (length i.jobs) leads label (length i.jobs) a b

-- Labels that stand for the paths between jobs.
pub record HasLabels (i : Instance) (label : ℕ → ℕ) : Type 0 where
  pub leads : ℕ → ℕ → Bool
  pub shows : (j k : ℕ) → j < length i.jobs → k < length i.jobs → IsTrue (leads j k) ↔ HasPath i.arcs j k
  pub labels : AreLabels i leads label

-- The pieces of all jobs, in the order of falling labels.
pub record IsByLabel (i : Instance) (label : ℕ → ℕ) (pieces : List Piece) : Type 0 where
  pub order : List ℕ
  pub schedule : IsListSchedule i order pieces
  pub falling : AllPairs (λ a b. label b ≤ label a) order

-- So many jobs have their labels, and the others are left; of these the ones that so far lead to greater labels stand later.
pub record IsLabelling (i : Instance) (leads : ℕ → ℕ → Bool) (count : ℕ) (label : ℕ → ℕ) (left : List ℕ) : Type 0 where
  pub each : (j : ℕ) → j < length i.jobs → (Contains left j × (label j ≡ MOST_JOBS)) ⊎ (label j < count)
  pub inside : All (λ j. (j < length i.jobs) × (label j ≡ MOST_JOBS)) left
  pub once : AllPairs (λ j k. j ≢ k) left
  pub size : count + length left ≡ length i.jobs
  pub distinct : (j k : ℕ) → j < length i.jobs → k < length i.jobs → label j < count → label j ≡ label k → j ≡ k
  pub lower : All (λ a. label a.before < count → label a.after < label a.before) i.arcs
  pub ranked : (a b : ℕ) → a < length i.jobs → b < length i.jobs → label b < count → label b < label a → Outranks (length i.jobs) leads label (MOST_JOBS + 1) a b
  pub sorted : AllPairs (λ b a. Outranks (length i.jobs) leads label count a b) left

-- So many of the ranks, each of which says how many jobs have greater labels.
pub record AreRanks (count : ℕ) (labels ranks : List ℕ) (done : ℕ) : Type 0 where
  pub len : length ranks ≡ done
  pub each : (j : ℕ) → j < done → slice_index ranks j ≡ count - 1 - slice_index labels j
