-- Comparing keys and then numbers is a strict weak order, so a sort by it puts the lesser key first, and ties by number.
use Rattle.std.proofs.Common.{◌≡◌, ℕ, ◌<◌, ◌≤◌, Bool, true, false, ◌⊎◌, List, get_or, AllPairs, arith}
use Rattle.std.specs.Ordering.{is_lt, nat_cmp, ordering_then}
use Rattle.std.specs.Cmp.{IsStrictWeakOrder}
use Rattle.std.specs.List.Sorted.{IsSortedBy}
use Rattle.std.proofs.lemmas.List.Sorted.{sorted_far}
use Rattle.std.proofs.lemmas.Bool.Decides.{nat_tests}

abbrev pub less : ℕ → ℕ → ℕ → ℕ → Bool
less x y a b = is_lt (ordering_then (nat_cmp x y) (nat_cmp a b))

abbrev pub Goes : ℕ → ℕ → ℕ → ℕ → Type 0
Goes x y a b = (x < y) ⊎ ((x ≡ y) × (a ≤ b))

pub less-no : (x y a b : ℕ) → less x y a b ≡ false → Goes y x b a
less-no x y a b h = grind (arith, nat_tests)

pub not_less : (x y a b : ℕ) → Goes y x b a → less x y a b ≡ false
not_less x y a b h = grind (arith, nat_tests)

pub less-yes : (x y a b : ℕ) → less x y a b ≡ true → Goes x y a b
less-yes x y a b h = grind (arith, nat_tests)

joined : (x y z a b c : ℕ) → Goes y x b a → Goes z y c b → Goes z x c a
joined x y z a b c h k = grind arith

turned : (x y z a b c : ℕ) → Goes x y b a → Goes y z c b → Goes x z c a
turned x y z a b c h k = grind arith

module _ {X : Type 0} (key number : X → ℕ) where
  abbrev pub key_less : X → X → Bool
  key_less x y = less (key x) (key y) (number x) (number y)

  pub key_less-order : IsStrictWeakOrder key_less
  key_less-order = record {
    one_way = λ x y h. not_less (key y) (key x) (number y) (number x) (less-yes (key x) (key y) (number x) (number y) h);
    chain = λ x y z h k. not_less (key x) (key z) (number x) (number z)
        (joined (key x) (key y) (key z) (number x) (number y) (number z) (less-no (key x) (key y) (number x) (number y) h) (less-no (key y) (key z) (number y) (number z) k));
  }

  pub key_sorted : (xs : List X) → IsSortedBy key_less xs → AllPairs (λ a b. (key a < key b) ⊎ ((key a ≡ key b) × (number a ≤ number b))) xs
  key_sorted xs h i j d l k = less-no (key (get_or xs j d)) (key (get_or xs i d)) (number (get_or xs j d)) (number (get_or xs i d)) (sorted_far key_less key_less-order xs h i j d (omega arith) k)

-- the greater key first
module _ {X : Type 0} (key number : X → ℕ) where
  abbrev pub falling_less : X → X → Bool
  falling_less x y = less (key y) (key x) (number x) (number y)

  pub falling_less-order : IsStrictWeakOrder falling_less
  falling_less-order = record {
    one_way = λ x y h. not_less (key x) (key y) (number y) (number x) (less-yes (key y) (key x) (number x) (number y) h);
    chain = λ x y z h k. not_less (key z) (key x) (number x) (number z)
        (turned (key x) (key y) (key z) (number x) (number y) (number z) (less-no (key y) (key x) (number x) (number y) h) (less-no (key z) (key y) (number y) (number z) k));
  }

  pub falling_sorted : (xs : List X) → IsSortedBy falling_less xs → AllPairs (λ a b. (key b < key a) ⊎ ((key b ≡ key a) × (number a ≤ number b))) xs
  falling_sorted xs h i j d l k = less-no (key (get_or xs i d))
      (key (get_or xs j d)) (number (get_or xs j d)) (number (get_or xs i d)) (sorted_far falling_less falling_less-order xs h i j d (omega arith) k)
