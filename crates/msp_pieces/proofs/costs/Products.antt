-- The product of two numbers as a call passes them, where the product of the numbers is small.
use Rattle.std.proofs.Common.{◌≡◌, ℕ, ◌*◌, ◌<◌, ◌≤◌, Bool, ℤ, pos, negsuc, ◌*ℤ◌, int_lt, unsigned_abs, sym, subst, subst₂, lt_of_le_of_lt, arith, lit≤, lit<}
use Rattle.std.proofs.lemmas.Int.{ints}
use Rattle.std.proofs.lemmas.Nat.{mul-le}
use Rattle.msp_class.specs.declared.sizes.TheConstants.{GREATEST, GREATEST_SPEED}
use Rattle.msp_class.proofs.IntegerRing.{*ℤ_comm}
use Rattle.msp_instance.specs.Conditions.{LiesWithin}
use Rattle.msp_pieces.specs.Within.{i128_limit, IsMoment, greatest_cost, greatest_lateness, greatest_slope_cost, greatest_length, greatest_work}
use Rattle.msp_pieces.specs.declared.limits.TheConstants.{GREATEST_MOMENT, GREATEST_COMPARED_NUMERATOR, GREATEST_COMPARED_DENOMINATOR}
use Rattle.msp_pieces.proofs.costs.Small.{product_within}

sizes_small : (x y : ℤ) (k : ℕ) → LiesWithin k (x *ℤ y) → unsigned_abs x * unsigned_abs y ≤ k
sizes_small (pos a) (pos b) k h = omega (arith, ints, h)
sizes_small (negsuc a) (pos b) k h = omega (arith, ints, h)
sizes_small _ _ k h = omega (arith, ints, h)

pub product_fits : {a b x y : ℤ} (k : ℕ) → a ≡ x → b ≡ y → LiesWithin k (x *ℤ y) → k < i128_limit → unsigned_abs a * unsigned_abs b < i128_limit
product_fits {a} {b} {x} {y} k e f h l = subst₂ (λ u v. unsigned_abs u * unsigned_abs v < i128_limit) (sym e) (sym f) (let s = sizes_small x y k h in omega (arith, s, l))

-- the numerator of one fraction times the denominator of another
pub compared_fits : {a b x y : ℤ} → a ≡ x → b ≡ y → unsigned_abs x ≤ GREATEST_COMPARED_NUMERATOR
    → unsigned_abs y ≤ GREATEST_COMPARED_DENOMINATOR → unsigned_abs a * unsigned_abs b < i128_limit
compared_fits {a} {b} {x} {y} e f h k = subst₂ (λ u v. unsigned_abs u * unsigned_abs v < i128_limit) (sym e) (sym f) (lt_of_le_of_lt (mul-le _ _ _ _ h k) (lit< tt))

pub product_is : {r a b x y : ℤ} → r ≡ a *ℤ b → a ≡ x → b ≡ y → r ≡ x *ℤ y
product_is {r} r_is e f = subst₂ (λ u v. r ≡ u *ℤ v) e f r_is

pub product_small : {r a b x y : ℤ} (k : ℕ) → r ≡ a *ℤ b → a ≡ x → b ≡ y → LiesWithin k (x *ℤ y) → LiesWithin k r
product_small k r_is e f h = subst (LiesWithin k) (sym (product_is r_is e f)) h

pub less_same : {a b x y : ℤ} {t : Bool} → int_lt a b ≡ t → a ≡ x → b ≡ y → int_lt x y ≡ t
less_same {a} {b} {x} {y} {t} h e f = subst₂ (λ u v. int_lt u v ≡ t) e f h

-- a slope at a moment, a weight over a lateness, and a length at a speed
pub slope_small : (n : ℕ) (x : ℤ) → n ≤ GREATEST → IsMoment x → LiesWithin greatest_slope_cost (pos n *ℤ x)
slope_small n x h m = product_within n x GREATEST (unsigned_abs GREATEST_MOMENT) greatest_slope_cost h (omega (arith, ints, m.0), omega (arith, ints, m.1)) (lit≤ tt)

pub weighted_small : (n : ℕ) (x : ℤ) → n ≤ GREATEST → LiesWithin greatest_lateness x → LiesWithin greatest_cost (pos n *ℤ x)
weighted_small n x h m = product_within n x GREATEST greatest_lateness greatest_cost h m (lit≤ tt)

pub sped_small : (x : ℤ) (n : ℕ) → LiesWithin greatest_length x → n ≤ GREATEST_SPEED → LiesWithin greatest_work (x *ℤ pos n)
sped_small x n m h = subst (LiesWithin greatest_work) (*ℤ_comm (pos n) x) (product_within n x GREATEST_SPEED greatest_length greatest_work h m (lit≤ tt))
