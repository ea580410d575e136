-- The pieces of jobs in places.
use Rattle.std.specs.Prelude.{◌≡◌, ℕ, ◌<◌, List, map, pos}
use Rattle.std.specs.List.{range_with_len}
use Rattle.msp_pieces.specs.declared.Piece.{Piece}
use Rattle.msp_places.specs.declared.place.Place.{Place}
use Rattle.msp_places.specs.Places.{place_at}

-- The piece of the job in the place.
abbrev pub piece_in : ℕ → Place → Piece
piece_in job p = record { job = job; op = 0; machine = p.machine; from = pos p.begin; to = pos p.end }

-- The pieces of n jobs in places: the k-th is that of the job in the place of the number.
abbrev pub placed : ℕ → List Place → (ℕ → ℕ) → (ℕ → ℕ) → List Piece
placed n places job number = map (λ k. piece_in (job k) (place_at places (number k))) (range_with_len 0 n)

-- No two of n jobs, and no two of their places, are the same.
pub record AreApart (n : ℕ) (job number : ℕ → ℕ) : Type 0 where
  pub jobs : (a : ℕ) → a < n → job a < n
  pub once : (a b : ℕ) → a < n → b < n → job a ≡ job b → a ≡ b
  pub numbers : (a : ℕ) → a < n → number a < n
  pub own : (a b : ℕ) → a < n → b < n → number a ≡ number b → a ≡ b
