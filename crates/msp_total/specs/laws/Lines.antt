-- The positions of a machine as a line: an earlier one costs each job no less.
use Rattle.std.proofs.Common.{◌≡◌, ℕ, ◌+◌, ◌*◌, ◌<◌, ◌≤◌, List, pos, ◌≤ℤ◌, sym, ap₂, subst₂, arith}
use Rattle.std.proofs.Math.Nat.{mul-le-mul_right}
use lib.Arith.{digits_div, digits_mod}
use Rattle.msp_class.proofs.IntegerRing.{pos-le}
use Rattle.msp_total.specs.Positions.{time_in, position_cost}

pub positions-whole : (jobs machines : ℕ) → machines * jobs ≡ jobs * machines
positions-whole jobs machines = omega arith

-- what a job costs at a place of a machine's line
pub position_cost_at : (jobs machines : ℕ) (times : List ℕ) (r l k : ℕ) → k < jobs → position_cost jobs machines times r (l * jobs + k) ≡ pos ((k + 1) * time_in machines times r l)
position_cost_at jobs machines times r l k h = ap₂ (λ y z. pos ((y + 1) * time_in machines times r z)) (digits_mod l h) (digits_div l h)

pub positions-rise : (jobs machines : ℕ) (times : List ℕ) (r l j k : ℕ)
    → l < machines → j ≤ k → k < jobs → position_cost jobs machines times r (l * jobs + j) ≤ℤ position_cost jobs machines times r (l * jobs + k)
positions-rise jobs machines times r l j k a b c =
    subst₂ (λ x y. x ≤ℤ y) (sym (position_cost_at jobs machines times r l j (omega (arith, b, c))))
    (sym (position_cost_at jobs machines times r l k c)) (pos-le (mul-le-mul_right (time_in machines times r l) (more j k b)))
  where
    more : (x y : ℕ) → x ≤ y → x + 1 ≤ y + 1
    more x y h = omega arith
