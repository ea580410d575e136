-- What a row pays stays within bounds.
use Rattle.std.proofs.Common.{◌≡◌, ℕ, ◌<◌, ◌≤◌, ℤ, pos, List, arith, sym}
use Rattle.std.proofs.lemmas.Int.{ints}
use Rattle.msp_assign.specs.Passing.{at}
use Rattle.msp_assign.specs.Search.{HasCharges, greatest_charge, sizes, paid, greatest_payment}
use Rattle.msp_class.proofs.IntegerRing.{natural}

pub sizes-at_most : (rows columns : ℕ) (cost : ℕ → ℕ → ℤ) → HasCharges rows columns cost → (r c : ℕ) → r < rows → c < columns → sizes cost r c ≤ greatest_charge
sizes-at_most rows columns cost h r c lr lc = omega (arith, ints, (h r c lr lc).0, (h r c lr lc).1)

pub sizes-is : (rows columns : ℕ) (cost : ℕ → ℕ → ℤ) → HasCharges rows columns cost → (r c : ℕ) → r < rows → c < columns → pos (sizes cost r c) ≡ cost r c
sizes-is rows columns cost h r c lr lc = sym (natural (cost r c) (h r c lr lc).0)

pub paid-at_most : (rows columns : ℕ) (cost : ℕ → ℕ → ℤ) (fall : List ℕ)
    → HasCharges rows columns cost → ((c : ℕ) → c < columns → at fall c ≤ greatest_charge) → (r c : ℕ) → r < rows → c < columns → paid (sizes cost) fall r c ≤ greatest_payment
paid-at_most rows columns cost fall h low r c lr lc = let a = sizes-at_most rows columns cost h r c lr lc in let b = low c lc in omega (arith, a, b)
