-- Ratios a / P, b / Q and c / R, compared without division: what leads from the first to the second and on to the third leads past it.
use Rattle.std.proofs.Common.{◌≡◌, ℕ, ◌*◌, ◌<◌, ◌≤◌, ap, arith}
use native.Mathlib.Nat.{le_of_mul-le-mul_left, mul-le-mul_left, mul-lt-mul_of_pos_left, lt_of_mul-lt-mul_left}

pub strict_left : (a b c P Q R : ℕ) → 0 < R → a * Q < b * P → b * R ≤ c * Q → a * R < c * P
strict_left a b c P Q R r h k = lt_of_mul-lt-mul_left Q (omega (arith, mul-lt-mul_of_pos_left {k = R} h r, mul-le-mul_left P k))

pub strict_right : (a b c P Q R : ℕ) → 0 < P → a * Q ≤ b * P → b * R < c * Q → a * R < c * P
strict_right a b c P Q R r h k = lt_of_mul-lt-mul_left Q (omega (arith, mul-le-mul_left R h, mul-lt-mul_of_pos_left {k = P} k r))

pub level : (a b c P Q R : ℕ) → 0 < Q → a * Q ≡ b * P → b * R ≡ c * Q → a * R ≡ c * P
level a b c P Q R q h k =
    let times : Q * (a * R) ≡ Q * (c * P) = omega (arith, ap (λ n. R * n) h, ap (λ n. P * n) k) in
    let up : a * R ≤ c * P = le_of_mul-le-mul_left {k = Q} (omega arith) q in
    let down : c * P ≤ a * R = le_of_mul-le-mul_left {k = Q} (omega arith) q in
    omega arith
