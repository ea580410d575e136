-- Totals of natural numbers and of integers over the numbers below n.
use Rattle.std.proofs.Common.{◌≡◌, ℕ, zero, suc, ◌+◌, ◌*◌, ◌≤◌, ◌<◌, cond, eqb, ◌-◌, inl, inr}
use Rattle.std.proofs.Common.{ℤ, pos, ◌+ℤ◌, ◌*ℤ◌, ◌≤ℤ◌, ap₂, arith, refl, sym, ap, ◌∙◌}
use Rattle.std.proofs.lemmas.Int.{ints}
use Rattle.msp_class.specs.Sums.{total_below, int_total_below}
use Rattle.msp_class.proofs.IntegerRing.{≤ℤ_refl, +ℤ_mono, *ℤ-zero, *ℤ-add}
use Rattle.std.proofs.lemmas.Bool.{ne_eqb, cases_eq, cases_lt, eq-eqb}
use Rattle.msp_class.proofs.ListSums.{cond-yes, cond-no}

-- ---- over the numbers below n
pub total_below-mono : (n : ℕ) (f g : ℕ → ℕ) → ((i : ℕ) → i < n → f i ≤ g i) → total_below n f ≤ total_below n g
total_below-mono zero f g h = omega arith
total_below-mono (suc n) f g h = omega (arith, h n (omega arith), total_below-mono n f g (λ i l. h i (omega arith)))

pub total_below-same : (n : ℕ) (f g : ℕ → ℕ) → ((i : ℕ) → i < n → f i ≡ g i) → total_below n f ≡ total_below n g
total_below-same zero f g h = refl
total_below-same (suc n) f g h = omega (arith, h n (omega arith), total_below-same n f g (λ i l. h i (omega arith)))

pub total_below-add : (n : ℕ) (f g : ℕ → ℕ) → total_below n (λ i. f i + g i) ≡ total_below n f + total_below n g
total_below-add zero f g = omega arith
total_below-add (suc n) f g = omega (arith, total_below-add n f g)

pub total_below-scale : (n k : ℕ) (f : ℕ → ℕ) → total_below n (λ i. k * f i) ≡ k * total_below n f
total_below-scale zero k f = omega arith
total_below-scale (suc n) k f = omega (arith, total_below-scale n k f)

pub total_below-scale_right : (n k : ℕ) (f : ℕ → ℕ) → total_below n (λ i. f i * k) ≡ total_below n f * k
total_below-scale_right zero k f = omega arith
total_below-scale_right (suc n) k f = omega (arith, total_below-scale_right n k f)

pub total_below-constant : (n k : ℕ) → total_below n (λ _. k) ≡ n * k
total_below-constant zero k = omega arith
total_below-constant (suc n) k = omega (arith, total_below-constant n k)

pub total_below-none : (n : ℕ) (f : ℕ → ℕ) → ((i : ℕ) → i < n → f i ≡ 0) → total_below n f ≡ 0
total_below-none n f h = total_below-same n f (λ _. 0) h ∙ total_below-constant n 0 ∙ omega arith

pub total_below-bound : (n k : ℕ) (f : ℕ → ℕ) → ((i : ℕ) → i < n → f i ≤ k) → total_below n f ≤ n * k
total_below-bound n k f h = omega (arith, total_below-mono n f (λ _. k) h, total_below-constant n k)

-- a term is at most the total
pub total_below-term : (n : ℕ) (f : ℕ → ℕ) (i : ℕ) → i < n → f i ≤ total_below n f
total_below-term zero f i l = absurd (omega arith)
total_below-term (suc n) f i l = grind (arith, total_below-term n f i)

-- a total that is not 0 has a term that is not
pub total_below-some : (n : ℕ) (f : ℕ → ℕ) → 0 < total_below n f → (i : ℕ) × (i < n) × (0 < f i)
total_below-some zero f h = absurd (omega arith)
total_below-some (suc n) f h = elim (cases_lt 0 (f n)) [
  | inl some ↦ (n, omega arith, some)
  | inr none ↦ let (i, l, p) = total_below-some n f (omega arith) in (i, omega arith, p)
]

-- equal totals of terms, none of which is the greater in the first, are equal term by term
pub total_below-tight : (n : ℕ) (f g : ℕ → ℕ) → ((i : ℕ) → i < n → f i ≤ g i) → total_below n g ≤ total_below n f → (i : ℕ) → i < n → f i ≡ g i
total_below-tight zero f g h t i l = absurd (omega arith)
total_below-tight (suc n) f g h t i l = elim (cases_eq i n) [
  | inl s ↦ omega (arith, ap f s, ap g s, h n (omega arith), total_below-mono n f g (λ k m. h k (omega arith)))
  | inr ne ↦ total_below-tight n f g (λ k m. h k (omega arith)) (omega (arith, h n (omega arith))) i (omega arith)
]

-- the term at i alone
pub total_below-only : (n : ℕ) (f : ℕ → ℕ) (i : ℕ) → i < n → total_below n (λ k. cond (eqb i k) (f k) 0) ≡ f i
total_below-only zero f i l = absurd (omega arith)
total_below-only (suc n) f i l = elim (cases_eq i n) [
  | inl s ↦
      let none = total_below-none n (λ k. cond (eqb i k) (f k) 0) (λ k m. cond-no (f k) (ne_eqb i k (λ q. omega arith))) in
      omega (arith, ap f s, cond-yes (f n) (eq-eqb i n s), none)
  | inr ne ↦ omega (arith, total_below-only n f i (omega arith), cond-no (f n) (ne_eqb i n ne))
]

pub total_below-split : (m n : ℕ) (f : ℕ → ℕ) → total_below (m + n) f ≡ total_below m f + total_below n (λ i. f (m + i))
total_below-split m zero f = ap (λ k. total_below k f) (let e : m + 0 ≡ m = omega arith in e) ∙ omega arith
total_below-split m (suc n) f = ap (λ k. total_below k f) (let e : m + suc n ≡ suc (m + n) = omega arith in e) ∙ omega (arith, total_below-split m n f)

pub total_below-within : (f : ℕ → ℕ) (k n : ℕ) → k ≤ n → total_below k f ≤ total_below n f
total_below-within f k n l = omega (arith, ap (λ x. total_below x f) (let whole : n ≡ k + (n - k) = omega arith in whole), total_below-split k (n - k) f)

pub total_below-exchange : (m n : ℕ) (h : ℕ → ℕ → ℕ) → total_below m (λ i. total_below n (λ j. h i j)) ≡ total_below n (λ j. total_below m (λ i. h i j))
total_below-exchange zero n h = sym (total_below-constant n 0 ∙ omega arith)
total_below-exchange (suc m) n h = ap (λ k. k + total_below n (λ j. h m j)) (total_below-exchange m n h) ∙ sym (total_below-add n (λ j. total_below m (λ i. h i j)) (λ j. h m j))

-- ---- totals of integers below n
pub int_total_below-same : (n : ℕ) (f g : ℕ → ℤ) → ((i : ℕ) → i < n → f i ≡ g i) → int_total_below n f ≡ int_total_below n g
int_total_below-same zero f g h = refl
int_total_below-same (suc n) f g h = ap₂ (λ x y. x +ℤ y) (int_total_below-same n f g (λ i l. h i (omega arith))) (h n (omega arith))

pub int_total_below-mono : (n : ℕ) (f g : ℕ → ℤ) → ((i : ℕ) → i < n → f i ≤ℤ g i) → int_total_below n f ≤ℤ int_total_below n g
int_total_below-mono zero f g h = ≤ℤ_refl (pos 0)
int_total_below-mono (suc n) f g h = +ℤ_mono (int_total_below-mono n f g (λ i l. h i (omega arith))) (h n (omega arith))

pub int_total_below-add : (n : ℕ) (f g : ℕ → ℤ) → int_total_below n (λ i. f i +ℤ g i) ≡ int_total_below n f +ℤ int_total_below n g
int_total_below-add zero f g = refl
int_total_below-add (suc n) f g = omega (arith, ints, int_total_below-add n f g)

pub int_total_below-scale : (n : ℕ) (k : ℤ) (f : ℕ → ℤ) → int_total_below n (λ i. k *ℤ f i) ≡ k *ℤ int_total_below n f
int_total_below-scale zero k f = sym (*ℤ-zero k)
int_total_below-scale (suc n) k f = ap (λ x. x +ℤ k *ℤ f n) (int_total_below-scale n k f) ∙ sym (*ℤ-add k (int_total_below n f) (f n))

-- of naturals it is the natural total
pub int_total_below-pos : (n : ℕ) (f : ℕ → ℕ) → int_total_below n (λ i. pos (f i)) ≡ pos (total_below n f)
int_total_below-pos zero f = refl
int_total_below-pos (suc n) f = ap (λ x. x +ℤ pos (f n)) (int_total_below-pos n f)

pub int_total_below-natural : (n : ℕ) (g : ℕ → ℤ) (f : ℕ → ℕ) → ((i : ℕ) → i < n → g i ≡ pos (f i)) → int_total_below n g ≡ pos (total_below n f)
int_total_below-natural n g f h = int_total_below-same n g (λ i. pos (f i)) h ∙ int_total_below-pos n f
