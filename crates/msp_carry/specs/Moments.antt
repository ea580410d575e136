-- The moments of what is brought back along a chain. No public contract cites this file.
use Rattle.std.specs.Prelude.{ℕ, List, [], ◌∷◌, ℤ}
use Rattle.msp_route.specs.Bounds.{moment_after}
use Rattle.msp_route.specs.declared.bounds.TheConstants.{GREATEST_ANSWER_MOMENT}

-- The greatest moment at the start of a chain, where that at its end is the greatest of an answer.
abbrev pub moment_over : List ℕ → ℤ
moment_over [] = GREATEST_ANSWER_MOMENT
moment_over (row ∷ rows) = moment_after row (moment_over rows)
