-- Counting in a rising list: the numbers that pass a test which all lesser ones pass stand first. And what the squeezed dates say of the
-- kept moments.
use Rattle.std.proofs.Common.{◌≡◌, ℕ, zero, suc, ◌+◌, ◌<◌, ◌≤◌, Bool, true, false, cond, ltb, List, [], ◌∷◌, length, get_or, count_by, All, AllPairs, inl, inr, ℤ, pos, ◌≤ℤ◌, sym, ap, ◌∙◌, arith}
use Rattle.std.specs.Prelude.{int_le}
use Rattle.std.proofs.lemmas.Bool.{cases_lt, lt-ltb, le-ltb, ltb-true, false≢true, true_from_ne_false, false_from_ne_true, cases_Bool}
use Rattle.std.proofs.lemmas.Int.{ints}
use Rattle.std.proofs.lemmas.List.Sums.{sum_by-cons}
use Rattle.msp_class.proofs.Sums.{cond-le, AllPairs-head, AllPairs-tail, sum_by-none}
use Rattle.msp_threshold.specs.Squeezed.{squeezed_release, squeezed_due}

abbrev Rising : List ℕ → Type 0
Rising xs = AllPairs (λ x y. x < y) xs

module _ (p : ℕ → Bool) (down : (x y : ℕ) → x < y → p y ≡ true → p x ≡ true) where
  abbrev one : ℕ → ℕ
  one x = cond (p x) 1 0

  none_pass : (x : ℕ) (xs : List ℕ) → All (λ y. x < y) xs → p x ≡ false → count_by p xs ≡ 0
  none_pass x xs h e = sum_by-none one xs
      (λ k d l. ap {B = ℕ} (λ b. cond b 1 0) (false_from_ne_true (p (get_or xs k d)) (λ f. false≢true (sym e ∙ down x (get_or xs k d) (h k d l) f))))

  pub passes : (xs : List ℕ) → Rising xs → (k : ℕ) → k < length xs → p (get_or xs k 0) ≡ true → k < count_by p xs
  passes [] r k l e = absurd (omega (arith, l))
  passes (x ∷ xs) r zero l e = omega (arith, sum_by-cons one x xs, ap {B = ℕ} (λ b. cond b 1 0) e)
  passes (x ∷ xs) r (suc k) l e =
      let b : k < length xs = omega (arith, l) in
      omega (arith, sum_by-cons one x xs, ap {B = ℕ} (λ b. cond b 1 0) (down x (get_or xs k 0) (AllPairs-head (λ x y. x < y) x xs r k 0 b) e), passes xs (AllPairs-tail (λ x y. x < y) x xs r) k b e)

  pub fails : (xs : List ℕ) → Rising xs → (k : ℕ) → k < length xs → p (get_or xs k 0) ≡ false → count_by p xs ≤ k
  fails [] r k l e = absurd (omega (arith, l))
  fails (x ∷ xs) r zero l e = omega (arith, sum_by-cons one x xs, ap {B = ℕ} (λ b. cond b 1 0) e, none_pass x xs (AllPairs-head (λ x y. x < y) x xs r) e)
  fails (x ∷ xs) r (suc k) l e =
      let b : k < length xs = omega (arith, l) in
      omega (arith, sum_by-cons one x xs, cond-le (p x) 1, fails xs (AllPairs-tail (λ x y. x < y) x xs r) k b e)

-- each number is at least its place
pub no_less : (xs : List ℕ) → Rising xs → (k : ℕ) → k < length xs → k ≤ get_or xs k 0
no_less xs r zero l = omega arith
no_less xs r (suc k) l = omega (arith, no_less xs r k (omega (arith, l)), r k (suc k) 0 (omega arith) l)

-- ---- the tests of dates
before_down : (r x y : ℕ) → x < y → ltb y r ≡ true → ltb x r ≡ true
before_down r x y h e = let less = ltb-true y r e in lt-ltb x r (omega (arith, h, less))

int_le-true : (a b : ℤ) → a ≤ℤ b → int_le a b ≡ true
int_le-true a b h = true_from_ne_false (int_le a b) (λ e. omega (arith, ints, h, e))

until_down : (d : ℤ) (x y : ℕ) → x < y → int_le (pos (y + 1)) d ≡ true → int_le (pos (x + 1)) d ≡ true
until_down d x y h e = int_le-true (pos (x + 1)) d (omega (arith, ints, h, e))

module _ (kept : List ℕ) (rising : Rising kept) (k : ℕ) (l : k < length kept) where
  abbrev x : ℕ
  x = get_or kept k 0

  pub released_there : (r : ℕ) → squeezed_release kept r ≤ k → r ≤ x
  released_there r h = elim (cases_lt x r) [
    | inl less ↦ absurd (omega (arith, h, passes (λ y. ltb y r) (before_down r) kept rising k l (lt-ltb x r less)))
    | inr more ↦ more
  ]

  pub released_here : (r : ℕ) → r ≤ x → squeezed_release kept r ≤ k
  released_here r h = fails (λ y. ltb y r) (before_down r) kept rising k l (le-ltb x r h)

  pub in_time_there : (date : ℤ) → k < squeezed_due kept date → pos (x + 1) ≤ℤ date
  in_time_there date h = elim (cases_Bool (int_le (pos (x + 1)) date)) [
    | inl e ↦ omega (arith, ints, e)
    | inr e ↦ absurd (omega (arith, h, fails (λ y. int_le (pos (y + 1)) date) (until_down date) kept rising k l e))
  ]

  pub in_time_here : (date : ℤ) → pos (x + 1) ≤ℤ date → k < squeezed_due kept date
  in_time_here date h = passes (λ y. int_le (pos (y + 1)) date) (until_down date) kept rising k l (int_le-true (pos (x + 1)) date h)
