-- The laws of ℤ as an ordered ring, and how it holds ℕ. Sums, differences and order alone are `omega (arith, ints)`'s.
use Rattle.std.proofs.Common.{◌≡◌, ℕ, zero, suc, ◌+◌, ◌*◌, ◌-◌, ◌≤◌, ◌<◌, ℤ, pos, negsuc, ◌+ℤ◌, ◌-ℤ◌, ◌*ℤ◌, neg_ℤ, ◌≤ℤ◌, ◌<ℤ◌, nat_abs, ◌⊎◌, inl, inr, arith, refl, sym, ap, subst, ◌∙◌}
use Rattle.std.proofs.lemmas.Int.{ints, clamps}
use Rattle.std.specs.Int.{int_max}
use Rattle.msp_class.proofs.Cases.{less_or_not}
use native.Mathlib.Nat.{mul-le-mul_left, mul-lt-mul_of_pos_left, le_of_mul-le-mul_left, lt_of_mul-lt-mul_left}
use borrow.Author.Differences.{up, down, product_is, sum_is_lem, neg_is, le_out, lt_out, at_most_in, below_in}
pub use lib.IntN.{+ℤ_assoc, +ℤ_comm, +ℤ_idl, +ℤ_idr, +ℤ_invl, +ℤ_invr, neg_ℤ-+ℤ, neg_ℤ-neg_ℤ, pos-+ℤ-pos, pos-*ℤ-pos, zero-*ℤ, *ℤ-zero, *ℤ_comm, ℤ_discrete, ℤ_set}

-- ---- how ℤ holds ℕ
pub pos-same : {a b : ℕ} → pos a ≡ pos b → a ≡ b
pos-same {a} {b} e = ap up e

pub pos-le : {a b : ℕ} → a ≤ b → pos a ≤ℤ pos b
pos-le {a} {b} h = omega (arith, ints)

pub le-pos : {a b : ℕ} → pos a ≤ℤ pos b → a ≤ b
le-pos {a} {b} h = omega (arith, ints)

pub pos-lt : {a b : ℕ} → a < b → pos a <ℤ pos b
pos-lt {a} {b} h = omega (arith, ints)

pub lt-pos : {a b : ℕ} → pos a <ℤ pos b → a < b
lt-pos {a} {b} h = omega (arith, ints)

pub zero-le-pos : (n : ℕ) → pos 0 ≤ℤ pos n
zero-le-pos n = omega (arith, ints)

-- an integer that is not negative is a natural number
pub natural : (x : ℤ) → pos 0 ≤ℤ x → x ≡ pos (nat_abs x)
natural x h = omega (arith, ints)

pub natural_some : (x : ℤ) → pos 0 ≤ℤ x → (n : ℕ) × (x ≡ pos n)
natural_some x h = (nat_abs x, natural x h)

-- a positive one is a natural number of at least 1
pub natural_positive : (x : ℤ) → pos 0 <ℤ x → (n : ℕ) × (x ≡ pos (suc n))
natural_positive (pos zero) h = absurd (omega (arith, ints))
natural_positive (pos (suc n)) h = (n, refl)
natural_positive (negsuc n) h = absurd (omega (arith, ints))

-- the difference of two natural numbers, where it is natural
pub pos-sub : (a b : ℕ) → b ≤ a → pos (a - b) ≡ pos a -ℤ pos b
pos-sub a b h = omega (arith, ints)

-- ---- order
pub ≤ℤ_refl : (a : ℤ) → a ≤ℤ a
≤ℤ_refl a = omega (arith, ints)

pub ≤ℤ_of_same : {a b : ℤ} → a ≡ b → a ≤ℤ b
≤ℤ_of_same {a} {b} e = omega (arith, ints)

pub ≤ℤ_trans : {a b c : ℤ} → a ≤ℤ b → b ≤ℤ c → a ≤ℤ c
≤ℤ_trans {a} {b} {c} h k = omega (arith, ints)

pub ≤ℤ-<ℤ : {a b c : ℤ} → a ≤ℤ b → b <ℤ c → a <ℤ c
≤ℤ-<ℤ {a} {b} {c} h k = omega (arith, ints)

pub ≤ℤ_antisym : {a b : ℤ} → a ≤ℤ b → b ≤ℤ a → a ≡ b
≤ℤ_antisym {a} {b} h k = omega (arith, ints)

pub <ℤ_weak : {a b : ℤ} → a <ℤ b → a ≤ℤ b
<ℤ_weak {a} {b} h = omega (arith, ints)

pub ≤ℤ_total : (a b : ℤ) → (a ≤ℤ b) ⊎ (b <ℤ a)
≤ℤ_total a b = elim (less_or_not (up b + down a) (up a + down b)) [ inl h ↦ inr (below_in b a h) | inr h ↦ inl (at_most_in a b h) ]

pub +ℤ_mono : {a b c d : ℤ} → a ≤ℤ b → c ≤ℤ d → (a +ℤ c) ≤ℤ (b +ℤ d)
+ℤ_mono {a} {b} {c} {d} h k = omega (arith, ints)

pub +ℤ_cancel : {a b : ℤ} (c : ℤ) → (a +ℤ c) ≤ℤ (b +ℤ c) → a ≤ℤ b
+ℤ_cancel {a} {b} c h = omega (arith, ints)

-- ---- products
pub one-*ℤ : (a : ℤ) → pos 1 *ℤ a ≡ a
one-*ℤ a = omega (arith, ints)

pub *ℤ-one : (a : ℤ) → a *ℤ pos 1 ≡ a
*ℤ-one a = omega (arith, ints)

pub *ℤ_assoc : (a b c : ℤ) → (a *ℤ b) *ℤ c ≡ a *ℤ (b *ℤ c)
*ℤ_assoc a b c = omega (
  arith,
  ints,
  ap (λ n. n * up c) (product_is a b).0,
  ap (λ n. n * up c) (product_is a b).1,
  ap (λ n. n * down c) (product_is a b).0,
  ap (λ n. n * down c)
      (product_is a b).1,
  ap (λ n. up a * n) (product_is b c).0,
  ap (λ n. up a * n) (product_is b c).1,
  ap (λ n. down a * n) (product_is b c).0,
  ap (λ n. down a * n) (product_is b c).1,
)

-- a product over a sum
pub *ℤ-add : (a b c : ℤ) → a *ℤ (b +ℤ c) ≡ a *ℤ b +ℤ a *ℤ c
*ℤ-add a b c = omega (arith, ints, ap (λ n. up a * n) (sum_is_lem b c), ap (λ n. down a * n) (sum_is_lem b c))

pub add-*ℤ : (a b c : ℤ) → (a +ℤ b) *ℤ c ≡ a *ℤ c +ℤ b *ℤ c
add-*ℤ a b c = omega (arith, ints, ap (λ n. n * up c) (sum_is_lem a b), ap (λ n. n * down c) (sum_is_lem a b))

pub neg-*ℤ : (a b : ℤ) → neg_ℤ a *ℤ b ≡ neg_ℤ (a *ℤ b)
neg-*ℤ a b = omega (arith, ints, ap (λ n. n * up b) (neg_is a).0, ap (λ n. n * up b) (neg_is a).1, ap (λ n. n * down b) (neg_is a).0, ap (λ n. n * down b) (neg_is a).1)

pub *ℤ-neg : (a b : ℤ) → a *ℤ neg_ℤ b ≡ neg_ℤ (a *ℤ b)
*ℤ-neg a b = *ℤ_comm a (neg_ℤ b) ∙ neg-*ℤ b a ∙ ap neg_ℤ (*ℤ_comm b a)

pub *ℤ-sub : (a b c : ℤ) → a *ℤ (b -ℤ c) ≡ a *ℤ b -ℤ a *ℤ c
*ℤ-sub a b c = *ℤ-add a b (neg_ℤ c) ∙ ap (λ x. a *ℤ b +ℤ x) (*ℤ-neg a c)

pub *ℤ_exchange : (a b c : ℤ) → a *ℤ (b *ℤ c) ≡ b *ℤ (a *ℤ c)
*ℤ_exchange a b c = sym (*ℤ_assoc a b c) ∙ ap (λ x. x *ℤ c) (*ℤ_comm a b) ∙ *ℤ_assoc b a c

-- ---- products and order
pub *ℤ-mono : (n : ℕ) {a b : ℤ} → a ≤ℤ b → (pos n *ℤ a) ≤ℤ (pos n *ℤ b)
*ℤ-mono n {a} {b} h = omega (arith, ints, mul-le-mul_left n (le_out a b h))

pub *ℤ-mono_right : (n : ℕ) {a b : ℤ} → a ≤ℤ b → (a *ℤ pos n) ≤ℤ (b *ℤ pos n)
*ℤ-mono_right n {a} {b} h = omega (arith, ints, mul-le-mul_left n (le_out a b h))

pub *ℤ-strict : (n : ℕ) {a b : ℤ} → 0 < n → a <ℤ b → (pos n *ℤ a) <ℤ (pos n *ℤ b)
*ℤ-strict n {a} {b} p h = omega (arith, ints, mul-lt-mul_of_pos_left {k = n} (lt_out a b h) p)

pub *ℤ-cancel : (n : ℕ) {a b : ℤ} → 0 < n → (pos n *ℤ a) ≤ℤ (pos n *ℤ b) → a ≤ℤ b
*ℤ-cancel n {a} {b} p h = at_most_in a b (le_of_mul-le-mul_left {k = n} (omega (arith, ints)) p)

pub *ℤ-cancel_lt : (n : ℕ) {a b : ℤ} → (pos n *ℤ a) <ℤ (pos n *ℤ b) → a <ℤ b
*ℤ-cancel_lt n {a} {b} h = below_in a b (lt_of_mul-lt-mul_left n (omega (arith, ints)))

pub *ℤ-cancel_same : (n : ℕ) {a b : ℤ} → 0 < n → pos n *ℤ a ≡ pos n *ℤ b → a ≡ b
*ℤ-cancel_same n {a} {b} p e = ≤ℤ_antisym (*ℤ-cancel n p (≤ℤ_of_same e)) (*ℤ-cancel n p (≤ℤ_of_same (sym e)))

-- the same for a factor that is an integer
pub *ℤ-mono_nonneg : {a b : ℤ} (c : ℤ) → pos 0 ≤ℤ c → a ≤ℤ b → (c *ℤ a) ≤ℤ (c *ℤ b)
*ℤ-mono_nonneg {a} {b} c p h = let (n, e) = natural_some c p in subst (λ z. (z *ℤ a) ≤ℤ (z *ℤ b)) (sym e) (*ℤ-mono n h)

pub *ℤ-cancel_pos : {a b : ℤ} (c : ℤ) → pos 0 <ℤ c → (c *ℤ a) ≤ℤ (c *ℤ b) → a ≤ℤ b
*ℤ-cancel_pos {a} {b} c p h = let (n, e) = natural_positive c p in *ℤ-cancel (suc n) (omega arith) (subst (λ z. (z *ℤ a) ≤ℤ (z *ℤ b)) e h)

pub *ℤ-nonneg : {a b : ℤ} → pos 0 ≤ℤ a → pos 0 ≤ℤ b → pos 0 ≤ℤ (a *ℤ b)
*ℤ-nonneg {a} {b} p q = let (m, d) = natural_some a p in let (n, e) = natural_some b q in subst (λ z. pos 0 ≤ℤ z) (sym (ap (λ x. x *ℤ b) d ∙ ap (λ x. pos m *ℤ x) e)) (zero-le-pos (m * n))

-- ---- the greater of two
pub int_max-right : (a b : ℤ) → a ≤ℤ b → int_max a b ≡ b
int_max-right a b h = omega (arith, ints, clamps)

pub int_max-left : (a b : ℤ) → b ≤ℤ a → int_max a b ≡ a
int_max-left a b h = omega (arith, ints, clamps)

pub ≤ℤ-int_max_left : (a b : ℤ) → a ≤ℤ int_max a b
≤ℤ-int_max_left a b = omega (arith, ints, clamps)

pub ≤ℤ-int_max_right : (a b : ℤ) → b ≤ℤ int_max a b
≤ℤ-int_max_right a b = omega (arith, ints, clamps)

pub int_max-least : {a b c : ℤ} → a ≤ℤ c → b ≤ℤ c → int_max a b ≤ℤ c
int_max-least {a} {b} {c} h k = omega (arith, ints, clamps)

pub int_max_mono : {a b c d : ℤ} → a ≤ℤ b → c ≤ℤ d → int_max a c ≤ℤ int_max b d
int_max_mono {a} {b} {c} {d} h k = int_max-least (≤ℤ_trans h (≤ℤ-int_max_left b d)) (≤ℤ_trans k (≤ℤ-int_max_right b d))

-- a natural factor goes into it
pub *ℤ-int_max : (n : ℕ) (a b : ℤ) → pos n *ℤ int_max a b ≡ int_max (pos n *ℤ a) (pos n *ℤ b)
*ℤ-int_max n a b = elim (≤ℤ_total a b) [
  | inl h ↦ omega (arith, ints, clamps, ap (λ x. pos n *ℤ x) (int_max-right a b h), *ℤ-mono n h)
  | inr h ↦ omega (arith, ints, clamps, ap (λ x. pos n *ℤ x) (int_max-left a b (<ℤ_weak h)), *ℤ-mono n (<ℤ_weak h))
]
