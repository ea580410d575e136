-- The first beginnings of jobs. No public contract cites this file.
use Rattle.std.specs.Prelude.{◌≡◌, ℕ, ◌<◌, List, ℤ, pos, ◌≤ℤ◌, All, slice_index_or}
use Rattle.msp_class.specs.declared.sizes.TheConstants.{MOST_JOBS}
use Rattle.msp_pieces.specs.declared.limits.TheConstants.{GREATEST_MOMENT}
use Rattle.msp_pieces.specs.declared.Piece.{Piece}

-- No piece of the job begins before the moment, which is the greatest such moment up to the greatest of all.
pub record IsBegin (pieces : List Piece) (j : ℕ) (x : ℤ) : Type 0 where
  pub bound : All (λ p. p.job ≡ j → x ≤ℤ p.from) pieces
  pub greatest : (b : ℤ) → b ≤ℤ GREATEST_MOMENT → All (λ p. p.job ≡ j → b ≤ℤ p.from) pieces → b ≤ℤ x

-- The moments are the first beginnings of the jobs.
abbrev pub AreBegins : List ℤ → List Piece → Type 0
AreBegins begins pieces = (j : ℕ) → j < MOST_JOBS → IsBegin pieces j (slice_index_or begins j (pos 0))

-- The moment is the last end of the pieces of the job's operations before this one, or 0 where there is none.
pub record IsEarlierEnd (pieces : List Piece) (j o : ℕ) (x : ℤ) : Type 0 where
  pub natural : pos 0 ≤ℤ x
  pub bound : All (λ p. p.job ≡ j → p.op < o → p.to ≤ℤ x) pieces
  pub least : (b : ℤ) → pos 0 ≤ℤ b → All (λ p. p.job ≡ j → p.op < o → p.to ≤ℤ b) pieces → x ≤ℤ b
