-- How many numbers below n pass a test.
use Rattle.std.proofs.Common.{◌≡◌, ℕ, zero, suc, ◌+◌, ◌*◌, ◌<◌, ◌≤◌, inl, inr, Bool, true, false, cond, eqb, ltb, leb, refl, sym, ap, ◌∙◌, arith}
use Rattle.std.specs.Prelude.{◌&&◌}
use Rattle.std.proofs.lemmas.Bool.{eqb-true, eq-eqb, ne_eqb, and_from, and_right, ltb-true}
use Rattle.std.proofs.lemmas.Bool.Decides.{nat_tests}
use Rattle.msp_class.specs.Sums.{total_below}
use Rattle.msp_class.proofs.Sums.{total_below-mono, total_below-same, total_below-add, total_below-exchange, total_below-only, total_below-none, total_below-term}
use Rattle.msp_pieces.proofs.feasible.OneMachine.{both_true}
use Rattle.msp_slots.specs.Seating.{one_if, begin_at}
use Rattle.msp_class.proofs.Cases.{same_or_not}
use Rattle.msp_pieces.proofs.lists.Positions.{count_at_most_one}
use Rattle.msp_due.specs.Steps.{how_many}

implied : (a b : Bool) → (a ≡ true → b ≡ true) → one_if a ≤ one_if b
implied false b h = omega arith
implied true b h = omega (arith, ap one_if (h refl))

-- what passes one test passes the other
pub how_many-mono : (n : ℕ) (f g : ℕ → Bool) → ((j : ℕ) → j < n → f j ≡ true → g j ≡ true) → how_many n f ≤ how_many n g
how_many-mono n f g h = total_below-mono n (λ j. one_if (f j)) (λ j. one_if (g j)) (λ j l. implied (f j) (g j) (h j l))

pub how_many-same : (n : ℕ) (f g : ℕ → Bool) → ((j : ℕ) → j < n → f j ≡ g j) → how_many n f ≡ how_many n g
how_many-same n f g h = total_below-same n (λ j. one_if (f j)) (λ j. one_if (g j)) (λ j l. ap one_if (h j l))

-- and one number more passes that
pub how_many-more : (n : ℕ) (f g : ℕ → Bool) (x : ℕ) → x < n → f x ≡ false → g x ≡ true → ((j : ℕ) → j < n → f j ≡ true → g j ≡ true) → how_many n f + 1 ≤ how_many n g
how_many-more n f g x l fails passes h =
    omega
    (arith, total_below-mono n (λ j. one_if (f j) + cond (eqb x j) 1 0) (λ j. one_if (g j)) each, total_below-add n (λ j. one_if (f j)) (λ j. cond (eqb x j) 1 0), total_below-only n (λ _. 1) x l)
  where
    each : (j : ℕ) → j < n → one_if (f j) + cond (eqb x j) 1 0 ≤ one_if (g j)
    each j b = by (eqb x j) refl
      where
        by : (t : Bool) → eqb x j ≡ t → one_if (f j) + cond t 1 0 ≤ one_if (g j)
        by false e = omega (arith, implied (f j) (g j) (h j b))
        by true e = let same = eqb-true x j e in omega (arith, ap one_if (ap f (sym same) ∙ fails), ap one_if (ap g (sym same) ∙ passes))

pub how_many-some : (n : ℕ) (f : ℕ → Bool) (x : ℕ) → x < n → f x ≡ true → 1 ≤ how_many n f
how_many-some n f x l passes = omega (arith, total_below-term n (λ j. one_if (f j)) x l, ap one_if passes)

-- where fewer than two pass, any two that pass are one
pub only_one : (n : ℕ) (f : ℕ → Bool) (a b : ℕ) → how_many n f < 2 → a < n → b < n → f a ≡ true → f b ≡ true → a ≡ b
only_one n f a b few k l p q = elim (same_or_not a b) [
  | inl same ↦ same
  | inr other ↦ absurd (omega (
    arith,
    few,
    how_many-more n (λ j. f j && eqb a j) f b l (and_right (f b) (eqb a b) (ne_eqb a b other)) q (λ j _ h. (both_true (f j) (eqb a j) h).0),
    how_many-some n (λ j. f j && eqb a j) a k (and_from (f a) (eqb a a) p (eq-eqb a a refl)),
  ))
]

-- each number below k that passes is the value of one below n that does
row : (k v : ℕ) (t : Bool) → total_below k (λ y. one_if (t && eqb v y)) ≤ one_if t
row k v false = omega (arith, total_below-none k (λ y. one_if (false && eqb v y)) (λ y l. refl))
row k v true = count_at_most_one k (λ y. eqb v y) (λ a b l m e f. sym (eqb-true v a e) ∙ eqb-true v b f)

pub covered : (n k : ℕ) (f g : ℕ → Bool) (value : ℕ → ℕ) → ((y : ℕ) → y < k → g y ≡ true → (p : ℕ) × (p < n) × (f p ≡ true) × (value p ≡ y)) → how_many k g ≤ how_many n f
covered n k f g value h =
    omega (
      arith,
      total_below-mono k (λ y. one_if (g y)) (λ y. total_below n (λ p. one_if (f p && eqb (value p) y))) column,
      total_below-exchange k n (λ y p. one_if (f p && eqb (value p) y)),
      total_below-mono n (λ p. total_below k (λ y. one_if (f p && eqb (value p) y))) (λ p. one_if (f p)) (λ p l. row k (value p) (f p)),
    )
  where
    column : (y : ℕ) → y < k → one_if (g y) ≤ total_below n (λ p. one_if (f p && eqb (value p) y))
    column y l = by (g y) refl
      where
        by : (t : Bool) → g y ≡ t → one_if t ≤ total_below n (λ p. one_if (f p && eqb (value p) y))
        by false e = omega arith
        by true e = let (p, b, passes, is) = h y l e in omega (arith, how_many-some n (λ p. f p && eqb (value p) y) p b (and_from (f p) (eqb (value p) y) passes (eq-eqb (value p) y is)))

-- ---- numbers that have slots
-- those between two slots are no more than these slots hold
pub slots_hold : (n m : ℕ) (slot : ℕ → ℕ) → ((x : ℕ) → begin_at n slot x ≤ m)
    → (from d : ℕ) (f : ℕ → Bool) → ((j : ℕ) → j < n → f j ≡ true → (from ≤ slot j) × (slot j < from + d)) → how_many n f ≤ m * d
slots_hold n m slot few from zero f h = omega (arith, total_below-none n (λ j. one_if (f j)) (λ j l. none (f j) (λ e. h j l e)))
  where
    none : {j : ℕ} (t : Bool) → (t ≡ true → (from ≤ slot j) × (slot j < from + 0)) → one_if t ≡ 0
    none false g = refl
    none true g = let (a, b) = g refl in absurd (omega (arith, a, b))
slots_hold n m slot few from (suc d) f h =
    omega (
      arith,
      total_below-mono n (λ j. one_if (f j)) (λ j. one_if (f j && ltb (slot j) (from + d)) + one_if (eqb (slot j) (from + d))) (λ j l. split (slot j) (f j) (λ e. h j l e)),
      total_below-add n (λ j. one_if (f j && ltb (slot j) (from + d))) (λ j. one_if (eqb (slot j) (from + d))),
      few (from + d),
      slots_hold n m slot few from d (λ j. f j && ltb (slot j) (from + d)) (λ j l e. let (a, b) = both_true (f j) (ltb (slot j) (from + d)) e in ((h j l a).0, ltb-true (slot j) (from + d) b)),
    )
  where
    split : (x : ℕ) (t : Bool) → (t ≡ true → (from ≤ x) × (x < from + suc d)) → one_if t ≤ one_if (t && ltb x (from + d)) + one_if (eqb x (from + d))
    split x false g = omega arith
    split x true g = let (a, b) = g refl in grind (arith, nat_tests)

-- and where each of these slots has m, they are no fewer
pub slots_full : (n m : ℕ) (slot : ℕ → ℕ) (f : ℕ → Bool) (from d : ℕ) → ((x : ℕ) → from ≤ x → x < from + d → m ≤ how_many n (λ j. f j && eqb (slot j) x))
    → m * d ≤ how_many n (λ j. f j && (leb from (slot j) && ltb (slot j) (from + d)))
slots_full n m slot f from zero h = omega arith
slots_full n m slot f from (suc d) h =
    omega (
      arith,
      h (from + d) (omega arith) (omega arith),
      slots_full n m slot f from d (λ x a b. h x a (omega (arith, b))),
      total_below-add n (λ j. one_if (f j && (leb from (slot j) && ltb (slot j) (from + d)))) (λ j. one_if (f j && eqb (slot j) (from + d))),
      total_below-mono n (λ j. one_if (f j && (leb from (slot j) && ltb (slot j) (from + d))) + one_if (f j && eqb (slot j) (from + d)))
          (λ j. one_if (f j && (leb from (slot j) && ltb (slot j) (from + suc d)))) (λ j l. joined (slot j) (f j)),
    )
  where
    joined : (x : ℕ) (t : Bool) → one_if (t && (leb from x && ltb x (from + d))) + one_if (t && eqb x (from + d)) ≤ one_if (t && (leb from x && ltb x (from + suc d)))
    joined x false = omega arith
    joined x true = grind (arith, nat_tests)
