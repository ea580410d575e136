-- Moments at which some piece runs.
use Rattle.std.specs.Prelude.{ℕ, Bool, cond, leb, ltb, ◌&&◌, List, ℤ, pos, nat_abs, ◌*ℤ◌}
use Rattle.std.specs.List.{list_any}
use Rattle.msp_class.specs.Sums.{total_below}
use Rattle.msp_pieces.specs.declared.Piece.{Piece}
use Rattle.msp_pieces.specs.Piece.{start, finish}

-- Of elements of any type with the moments at which they begin and end: whether one runs from the moment u to the next, whether some one
-- does, and at how many moments before t some one does.
abbrev pub runs : {X : Type 0} → (X → ℕ) → (X → ℕ) → ℕ → X → Bool
runs from to u q = leb (from q) u && ltb u (to q)

abbrev pub some_runs : {X : Type 0} → (X → ℕ) → (X → ℕ) → List X → ℕ → Bool
some_runs from to xs u = list_any (runs from to u) xs

abbrev pub busy : {X : Type 0} → (X → ℕ) → (X → ℕ) → List X → ℕ → ℕ
busy from to xs t = total_below t (λ u. cond (some_runs from to xs u) 1 0)

-- The number of moments before the moment x at which some piece runs, times e.
abbrev pub busy_moment : ℕ → List Piece → ℤ → ℤ
busy_moment e ps x = pos e *ℤ pos (busy start finish ps (nat_abs x))
