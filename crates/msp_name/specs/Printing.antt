-- The items of a printed name, with a comma between neighbours. No public contract cites this file.
use Rattle.std.specs.Prelude.{ℕ, List, [], ◌∷◌, ◌++◌, Bool, true, false}
use Rattle.msp_name.specs.Names.{comma}

-- the texts, each with a comma before it where one goes before
abbrev pub following : Bool → List (List ℕ) → List ℕ
following again [] = []
following true (w ∷ ws) = comma ∷ (w ++ following true ws)
following false (w ∷ ws) = w ++ following true ws
