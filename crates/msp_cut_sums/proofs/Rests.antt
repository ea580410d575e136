-- Numbers of one rest lie whole blocks apart.
use Rattle.std.proofs.Common.{◌≡◌, ℕ, ◌+◌, ◌/◌, ◌%◌, ◌<◌, add-one-le, lt_of_not-le, arith}
use Rattle.std.proofs.Math.Nat.{mul-le-mul_right}
use Rattle.msp_class.proofs.Quotients.{block_and_rest}

-- of two numbers with one rest, the lesser is in a lesser block
pub blocks_rise : (m x y : ℕ) → x < y → x % m ≡ y % m → x / m < y / m
blocks_rise m x y l e = lt_of_not-le (λ h. omega (arith, l, e, block_and_rest m x, block_and_rest m y, mul-le-mul_right m h))

-- two numbers that are less than m apart differ in their rests
pub rests_differ : (m x y : ℕ) → x % m ≡ y % m → x < y → y < x + m → ⊥
rests_differ m x y e l k = omega (arith, k, e, block_and_rest m x, block_and_rest m y, mul-le-mul_right m (add-one-le (blocks_rise m x y l e)))
