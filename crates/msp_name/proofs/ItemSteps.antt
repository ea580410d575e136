-- The items of a text, one by one.
use Rattle.std.proofs.Common.{◌≡◌, ℕ, ◌+◌, List, ◌∷◌, length, refl, Ok, arith}
use Rattle.msp_class.specs.declared.class.Class.{Class}
use Rattle.msp_name.specs.Names.{comma}
use Rattle.msp_name.specs.Reading.{item_read, items_read, parts}

-- what is left after a good item gives the same answer
pub items_read-rest : (at : ℕ) (c d : Class) (text word more : List ℕ) → parts comma text ≡ word ∷ parts comma more → Ok d ≡ item_read at c word
    → items_read (at + (length word + 1)) d (parts comma more) ≡ items_read at c (parts comma text)
items_read-rest at c d text word more split good =
    let place : at + (length word + 1) ≡ at + length word + 1 = omega arith in
    rw (split, ← good, place) refl
