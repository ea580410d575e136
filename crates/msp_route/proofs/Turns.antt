-- Turns, m for each of n: turn x is that of number x mod m of x / m.
use Rattle.std.proofs.Common.{◌≡◌, ℕ, ◌+◌, ◌*◌, ◌/◌, ◌%◌, ◌<◌, inl, inr, List, [], ◌∷◌, ◌++◌, map, sym, ap, ◌∙◌, arith, zero-add}
use Rattle.std.specs.List.{range_with_len}
use Rattle.std.proofs.Math.Nat.{div-mul-le_self, mul-le-mul_right}
use Rattle.std.proofs.lemmas.Bool.{cases_lt}
use Rattle.std.proofs.lemmas.List.FromFn.{map-range_with_len_more}
use Rattle.msp_class.proofs.Quotients.{block_and_rest}

pub turn_inside : (n m turn : ℕ) → turn < n * m → turn / m < n
turn_inside n m turn l = elim (cases_lt (turn / m) n) [ inl b ↦ b | inr b ↦ absurd (omega (arith, l, mul-le-mul_right m b, div-mul-le_self turn m)) ]

-- of two turns of one, the later has the greater number
pub later_rest : (m x y : ℕ) → x < y → x / m ≡ y / m → x % m < y % m
later_rest m x y l e = omega (arith, l, block_and_rest m x, block_and_rest m y, ap (λ k. k * m) e)

-- one turn more
pub turns_next : {X : Type 0} (make : ℕ → X) (x : ℕ) (old new : List X) → new ≡ old ++ make x ∷ [] → old ≡ map make (range_with_len 0 x) → new ≡ map make (range_with_len 0 (x + 1))
turns_next make x old new e is = e ∙ ap (λ l. l ++ make x ∷ []) is ∙ sym (map-range_with_len_more make 0 x x (zero-add x))
