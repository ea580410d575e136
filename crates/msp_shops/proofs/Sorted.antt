-- What Johnson's rule compares is a strict weak order, so a sort by it puts the jobs into Johnson's order.
use Rattle.std.proofs.Common.{◌≡◌, ℕ, ◌<◌, ◌≤◌, Bool, true, false, ◌⊎◌, List, get_or, AllPairs, arith}
use Rattle.std.specs.Ordering.{is_lt}
use Rattle.std.specs.Cmp.{IsStrictWeakOrder}
use Rattle.std.specs.List.Sorted.{IsSortedBy, ties}
use Rattle.std.proofs.lemmas.Bool.Decides.{nat_tests}
use Rattle.std.proofs.lemmas.List.Sorted.{sorted_far}
use Rattle.std.proofs.lemmas.Bool.{and_from, not_from_false}
use Rattle.msp_shops.specs.Order.{GoesBefore, compared}

-- times a and b go before times c and d, or may stand on either side of them
abbrev Precedes : ℕ → ℕ → ℕ → ℕ → Type 0
Precedes a b c d = ((a ≤ b) × ((d < c) ⊎ (a ≤ c))) ⊎ ((b < a) × (d < c) × (d ≤ b))

not_after : (a b c d : ℕ) → is_lt (compared c d a b) ≡ false → Precedes a b c d
not_after a b c d h = grind (arith, nat_tests)

precedes_not : (a b c d : ℕ) → Precedes a b c d → is_lt (compared c d a b) ≡ false
precedes_not a b c d h = grind (arith, nat_tests)

one_way : (a b c d : ℕ) → is_lt (compared a b c d) ≡ true → Precedes a b c d
one_way a b c d h = grind (arith, nat_tests)

joined : (a b c d e f : ℕ) → Precedes a b c d → Precedes c d e f → Precedes a b e f
joined a b c d e f g h = grind arith

module _ {X : Type 0} (first second : X → ℕ) where
  abbrev pub johnson_less : X → X → Bool
  johnson_less x y = is_lt (compared (first x) (second x) (first y) (second y))

  pub johnson_less-order : IsStrictWeakOrder johnson_less
  johnson_less-order = record {
    one_way = λ x y h. precedes_not (first x) (second x) (first y) (second y) (one_way (first x) (second x) (first y) (second y) h);
    chain = λ x y z h k.
        precedes_not (first z) (second z) (first x) (second x)
        (joined (first z) (second z) (first y) (second y) (first x) (second x) (not_after (first z) (second z) (first y) (second y) k) (not_after (first y) (second y) (first x) (second x) h));
  }

  pub johnson_sorted : (xs : List X) → IsSortedBy johnson_less xs → AllPairs (GoesBefore first second) xs
  johnson_sorted xs h i j d l k =
      let x = get_or xs i d in
      let y = get_or xs j d in
      not_after (first x) (second x) (first y) (second y) (sorted_far johnson_less johnson_less-order xs h i j d (omega arith) k)

  -- elements of which each may stand before the other tie
  pub johnson_ties : (x y : X) → GoesBefore first second x y → GoesBefore first second y x → ties johnson_less x y ≡ true
  johnson_ties x y h k =
      and_from _ _ (not_from_false _ (precedes_not (first y) (second y) (first x) (second x) k))
      (not_from_false _ (precedes_not (first x) (second x) (first y) (second y) h))
