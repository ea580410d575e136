-- Moments over a unit, rounded down.
use Rattle.std.proofs.Common.{◌≡◌, ℕ, ◌+◌, ◌*◌, ◌/◌, ◌≤◌, ap, arith}
use Rattle.msp_class.proofs.Quotients.{block_and_rest, rest_small}

-- two that lie a unit apart differ
pub floors_differ : (u x y : ℕ) → 1 ≤ u → x / u ≡ y / u → x + u ≤ y → ⊥
floors_differ u x y some e h = omega (arith, h, block_and_rest u x, block_and_rest u y, rest_small u y some, ap (λ k. k * u) e)

-- a unit after the floor
pub floor_to : (u x b m : ℕ) → b + m ≡ x / u + 1 → u * (b + m) ≤ x + u
floor_to u x b m e = omega (arith, block_and_rest u x, ap (λ k. u * k) e)
