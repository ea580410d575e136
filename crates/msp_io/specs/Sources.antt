-- What a source gives, and the laws that it keeps.
use Rattle.std.specs.Prelude.{◌≡◌, ◌↔◌, ℕ, ◌<◌, List, [], ◌++◌, length, Option, Some, None}
use Rattle.std.specs.Io.KnownBytes.{Consumes, IsAtEnd}
use Rattle.msp_io.specs.Faults.{Rose, WentUp}
use Rattle.msp_io.specs.Views.{SourceView}

-- a read with so much room that gave so many bytes met the end of the input
abbrev pub MeetsEnd : ℕ → ℕ → Type 0
MeetsEnd room count = (0 < room) × (count ≡ 0)

-- what a read with room says by its count, from what was left before it and after it:
-- where the source tells its bytes, 0 comes exactly where none are left; a source that begins to tell is at its end then
abbrev pub TellsEnd : Option (List ℕ) → Option (List ℕ) → ℕ → Type 0
TellsEnd None after count = count ≡ 0 → IsAtEnd after
TellsEnd (Some bytes) after count = (count ≡ 0) ↔ (bytes ≡ [])

-- these bytes were given, and no read failed
pub record Gives (before after : SourceView) (bytes : List ℕ) : Type 0 where
  -- they were the front of what was left
  pub left : Consumes before.left after.left bytes
  pub given : WentUp before.given after.given (length bytes)
  pub faults : after.faults ≡ before.faults

-- these bytes were given, and no others are left
pub record GivesAll (before after : SourceView) (bytes : List ℕ) : Type 0 where
  pub gives : Gives before after bytes
  pub end : IsAtEnd after.left

-- these bytes were given, and then a read failed
pub record GivesAndFails (before after : SourceView) (bytes : List ℕ) : Type 0 where
  -- they were the front of what was left
  pub left : Consumes before.left after.left bytes
  pub given : WentUp before.given after.given (length bytes)
  pub failed : Rose before.faults after.faults

-- The laws of a source: what `gave`, `finished` and `broke` say of the bytes between two moments. Nothing is joined to what is finished
-- or broken.
pub record KeepsLaws {S : Type 0} (seen : S → SourceView) (gave finished broke : S → S → List ℕ → Type 0) : Type 0 where
  -- nothing is given without a call
  pub none : (a : S) → gave a a []
  -- what several calls gave is joined
  pub joined : (a b c : S) (xs ys : List ℕ) → gave a b xs → gave b c ys → gave a c (xs ++ ys)
  -- what was given and then finished is finished
  pub joined_end : (a b c : S) (xs ys : List ℕ) → gave a b xs → finished b c ys → finished a c (xs ++ ys)
  -- what was given and then broke is broken
  pub joined_fault : (a b c : S) (xs ys : List ℕ) → gave a b xs → broke b c ys → broke a c (xs ++ ys)
  -- where the source tells or counts its bytes, the bytes are these
  pub gives : (a b : S) (xs : List ℕ) → gave a b xs → Gives (seen a) (seen b) xs
  pub finishes : (a b : S) (xs : List ℕ) → finished a b xs → GivesAll (seen a) (seen b) xs
  pub breaks : (a b : S) (xs : List ℕ) → broke a b xs → GivesAndFails (seen a) (seen b) xs
