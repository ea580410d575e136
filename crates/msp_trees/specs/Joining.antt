-- Jobs that are joined into blocks, and the blocks that Horn's rule leaves. No public contract cites this file.
use Rattle.std.specs.Prelude.{◌≡◌, ◌≢◌, ℕ, ◌+◌, ◌*◌, ◌<◌, ◌≤◌, ◌⊎◌, List, [], ◌∷◌, length, slice_index_or, All, AllPairs, Contains, IsPermutation}
use Rattle.std.specs.List.{concat}
use Rattle.msp_class.proofs.Sums.{OnceBelow}
use Rattle.msp_instance.specs.declared.Instance.{Instance}
use Rattle.msp_pieces.specs.BackToBack.{time_at, weighted_ends}
use Rattle.msp_trees.specs.declared.joining.Load.{Load}
use Rattle.msp_trees.specs.Horn.{before, weight_at}

-- No job stands earlier than the one before it.
abbrev pub IsForward : (ℕ → ℕ) → List ℕ → Type 0
IsForward before order = AllPairs (λ a b. before a ≢ b) order

-- Each job of the block but the first has the one before it in the block.
abbrev pub IsBranch : (ℕ → ℕ) → List ℕ → Type 0
IsBranch before [] = ⊥
IsBranch before (first ∷ rest) = All (λ j. Contains (first ∷ rest) (before j)) rest

-- The blocks in an order in which all jobs stand forward, and back to back cost at most this much.
pub record IsLine (before p w : ℕ → ℕ) (blocks : List (List ℕ)) (most : ℕ) (line : List (List ℕ)) : Type 0 where
  pub same : IsPermutation blocks line
  pub forward : IsForward before (concat line)
  pub cheap : weighted_ends p w 0 (concat line) ≤ most

-- The blocks hold the jobs below n and the start n, which stands in the first one; and for each order in which jobs stand forward there is
-- one of the blocks that costs no more.
pub record IsJoined (n : ℕ) (before p w : ℕ → ℕ) (blocks : List (List ℕ)) : Type 0 where
  pub once : OnceBelow (n + 1) (concat blocks)
  pub branches : All (IsBranch before) blocks
  pub start : Contains (slice_index_or blocks 0 []) n
  pub cheap : (order : List ℕ) → OnceBelow n order → IsForward before order → (line : List (List ℕ)) × IsLine before p w blocks (weighted_ends p w 0 order) line

-- The same of an instance.
abbrev pub AreJoined : Instance → List (List ℕ) → Type 0
AreJoined i blocks = IsJoined (length i.jobs) (before i) (time_at i) (weight_at i) blocks

-- The jobs in an order that is forward, and back to back costs no more than another one that is.
pub record IsCheapest (n : ℕ) (before p w : ℕ → ℕ) (order : List ℕ) : Type 0 where
  pub once : OnceBelow n order
  pub forward : IsForward before order
  pub least : (other : List ℕ) → OnceBelow n other → IsForward before other → weighted_ends p w 0 order ≤ weighted_ends p w 0 other

-- The block is of greater weight for its time, or of as great a one and its first job has no greater number.
abbrev pub GoesNoLater : Load → Load → Type 0
GoesNoLater x y = (y.weight * x.time < x.weight * y.time) ⊎ ((y.weight * x.time ≡ x.weight * y.time) × (x.first ≤ y.first))
