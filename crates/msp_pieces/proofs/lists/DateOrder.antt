-- Comparing dates and then numbers is a strict weak order, so a sort by it puts the earlier date first, and ties by number.
use Rattle.std.proofs.Common.{◌≡◌, ℕ, ◌<◌, ◌≤◌, Bool, true, false, ◌⊎◌, inl, inr, List, get_or, AllPairs, ℤ, ◌<ℤ◌, ◌≤ℤ◌, arith}
use Rattle.std.specs.Ordering.{is_lt, int_cmp, nat_cmp, ordering_then}
use Rattle.std.specs.Cmp.{IsStrictWeakOrder}
use Rattle.std.specs.List.Sorted.{IsSortedBy}
use Rattle.std.proofs.lemmas.Bool.Decides.{nat_tests}
use Rattle.std.proofs.lemmas.Int.{ints}
use Rattle.std.proofs.lemmas.List.Sorted.{sorted_far}
use Rattle.msp_class.proofs.IntegerRing.{≤ℤ_of_same, <ℤ_weak}

abbrev pub less : ℤ → ℤ → ℕ → ℕ → Bool
less x y a b = is_lt (ordering_then (int_cmp x y) (nat_cmp a b))

number-no : (a b : ℕ) → is_lt (nat_cmp a b) ≡ false → b ≤ a
number-no a b k = grind (arith, nat_tests)

number-yes : (a b : ℕ) → is_lt (nat_cmp a b) ≡ true → a < b
number-yes a b k = grind (arith, nat_tests)

not_number : (a b : ℕ) → b ≤ a → is_lt (nat_cmp a b) ≡ false
not_number a b k = grind (arith, nat_tests)

pub less-no : (x y : ℤ) (a b : ℕ) → less x y a b ≡ false → (y <ℤ x) ⊎ ((y ≡ x) × (b ≤ a))
less-no x y a b h = grind (arith, ints, nat_tests)

pub not_less : (x y : ℤ) (a b : ℕ) → (y <ℤ x) ⊎ ((y ≡ x) × (b ≤ a)) → less x y a b ≡ false
not_less x y a b h = grind (arith, ints, nat_tests)

pub less-yes : (x y : ℤ) (a b : ℕ) → less x y a b ≡ true → (x <ℤ y) ⊎ ((x ≡ y) × (a < b))
less-yes x y a b h = grind (arith, ints, nat_tests)

joined : (x y z : ℤ) (a b c : ℕ) → (y <ℤ x) ⊎ ((y ≡ x) × (b ≤ a)) → (z <ℤ y) ⊎ ((z ≡ y) × (c ≤ b)) → (z <ℤ x) ⊎ ((z ≡ x) × (c ≤ a))
joined x y z a b c h k = grind (arith, ints)

module _ {X : Type 0} (date : X → ℤ) (number : X → ℕ) where
  abbrev pub date_less : X → X → Bool
  date_less x y = less (date x) (date y) (number x) (number y)

  pub date_less-order : IsStrictWeakOrder date_less
  date_less-order = record {
    one_way = λ x y h. not_less (date y) (date x) (number y) (number x) (elim (less-yes (date x) (date y) (number x) (number y) h) [ inl a ↦ inl a | inr e ↦ inr (e.0, omega (arith, e.1)) ]);
    chain = λ x y z h k. not_less (date x) (date z) (number x) (number z)
        (joined (date x) (date y) (date z) (number x) (number y) (number z) (less-no (date x) (date y) (number x) (number y) h) (less-no (date y) (date z) (number y) (number z) k));
  }

  pub date_sorted : (xs : List X) → IsSortedBy date_less xs → AllPairs (λ a b. (date a <ℤ date b) ⊎ ((date a ≡ date b) × (number a ≤ number b))) xs
  date_sorted xs h i j d l k = less-no (date (get_or xs j d)) (date (get_or xs i d)) (number (get_or xs j d)) (number (get_or xs i d)) (sorted_far date_less date_less-order xs h i j d (omega arith) k)

  -- by the number alone
  abbrev pub number_less : X → X → Bool
  number_less x y = is_lt (nat_cmp (number x) (number y))

  pub number_less-order : IsStrictWeakOrder number_less
  number_less-order = record {
    one_way = λ x y h. not_number (number y) (number x) (omega (arith, number-yes (number x) (number y) h));
    chain = λ x y z h k. not_number (number x) (number z) (omega (arith, number-no (number x) (number y) h, number-no (number y) (number z) k));
  }

  pub number_sorted : (xs : List X) → IsSortedBy number_less xs → AllPairs (λ a b. number a ≤ number b) xs
  number_sorted xs h i j d l k = number-no (number (get_or xs j d)) (number (get_or xs i d)) (sorted_far number_less number_less-order xs h i j d (omega arith) k)

-- jobs by date do not fall in it, however ties are broken
pub dates_rise : (Tie : ℕ → ℕ → Type 0) (due : ℕ → ℤ) (jobs : List ℕ) → AllPairs (λ a b. (due a <ℤ due b) ⊎ ((due a ≡ due b) × Tie a b)) jobs → AllPairs (λ a b. due a ≤ℤ due b) jobs
dates_rise Tie due jobs h a b d l k = elim (h a b d l k) [ inl less ↦ <ℤ_weak less | inr e ↦ ≤ℤ_of_same e.0 ]
