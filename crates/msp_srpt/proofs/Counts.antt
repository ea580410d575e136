-- Sums of numbers by how many of them are at most each moment.
use Rattle.std.proofs.Common.{◌≡◌, ℕ, zero, suc, ◌+◌, ◌*◌, ◌<◌, ◌≤◌, inl, inr, cond, leb, sym, ap, ◌∙◌, arith}
use Rattle.std.proofs.lemmas.Bool.{cases_lt, le-leb, lt-leb}
use Rattle.msp_class.specs.Sums.{total_below}
use Rattle.msp_class.proofs.Sums.{cond-yes, cond-no, total_below-mono, total_below-same, total_below-add, total_below-none, total_below-constant, total_below-term, total_below-exchange}

-- how many of the values of f below n are at most c
abbrev pub at_most : ℕ → (ℕ → ℕ) → ℕ → ℕ
at_most n f c = total_below n (λ j. cond (leb (f j) c) 1 0)

-- a number is what its bound leaves of the moments from it on
number_by_moments : (x h : ℕ) → x ≤ h → total_below h (λ c. cond (leb x c) 1 0) + x ≡ h
number_by_moments x zero l = omega (arith, l)
number_by_moments x (suc h) l = elim (cases_lt h x) [
  | inl m ↦ omega (arith, l, m, total_below-none (suc h) (λ c. cond (leb x c) 1 0) (λ c b. cond-no 1 (lt-leb x c (omega (arith, m, b)))))
  | inr m ↦ omega (arith, number_by_moments x h m, cond-yes 1 (le-leb x h m))
]

total_by_moments : (n h : ℕ) (f : ℕ → ℕ) → ((j : ℕ) → j < n → f j ≤ h) → total_below h (at_most n f) + total_below n f ≡ n * h
total_by_moments n h f l =
    ap (λ s. s + total_below n f) (total_below-exchange h n (λ c j. cond (leb (f j) c) 1 0))
    ∙ sym (total_below-add n (λ j. total_below h (λ c. cond (leb (f j) c) 1 0)) f)
    ∙ total_below-same n (λ j. total_below h (λ c. cond (leb (f j) c) 1 0) + f j) (λ _. h) (λ j m. number_by_moments (f j) h (l j m))
    ∙ total_below-constant n h

-- where at each moment no more values of g are at most it than of f, the total of f is no greater
pub total_from_counts : (n : ℕ) (f g : ℕ → ℕ) → ((c : ℕ) → at_most n g c ≤ at_most n f c) → total_below n f ≤ total_below n g
total_from_counts n f g h =
    let top = total_below n f + total_below n g in
    let low = total_by_moments n top f (λ j l. omega (arith, total_below-term n f j l)) in
    let high = total_by_moments n top g (λ j l. omega (arith, total_below-term n g j l)) in
    omega (arith, low, high, total_below-mono top (at_most n g) (at_most n f) (λ c l. h c))
