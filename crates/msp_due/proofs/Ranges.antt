-- The bounds between which the least one lies.
use Rattle.std.proofs.Common.{◌≡◌, ◌≢◌, ℕ, ◌+◌, ◌<◌, ◌≤◌, inl, inr, eqb, ℤ, List, length, get_or, pos, ◌≤ℤ◌, FitsSigned, to_z, of_z, All, AllPairs, sym, ap, ap₂, below_more}
use Rattle.std.proofs.Common.{subst, subst₂, ◌∙◌, arith}
use Rattle.std.specs.Int.{int_max, w128}
use Rattle.std.specs.Prelude.{slice_get, Some}
use Rattle.std.proofs.lemmas.Bool.{eqb-true}
use Rattle.std.proofs.lemmas.Int.{ints, to_z-of_z}
use Rattle.std.proofs.lemmas.List.{get_or_default}
use Rattle.std.proofs.lemmas.Option.{get_or_from_slice_get, slice_get_within}
use Rattle.msp_class.proofs.IntegerRing.{≤ℤ_trans, ≤ℤ-int_max_left, ≤ℤ-int_max_right, int_max-least, int_max-left, int_max-right, ≤ℤ_total, <ℤ_weak}
use Rattle.msp_class.proofs.Sums.{OnceBelow-distinct}
use Rattle.msp_instance.specs.declared.Arc.{Arc}
use Rattle.msp_instance.specs.declared.Instance.{Instance}
use Rattle.msp_instance.specs.Conditions.{LiesWithin, IsSequence, GoesForward}
use Rattle.msp_instance.proofs.CycleLemmas.{OnceBelow-from_sequence}
use Rattle.msp_pieces.specs.Within.{greatest_cost}
use Rattle.msp_pieces.proofs.bounds.Certified.{place_in, place_in-is}
use Rattle.msp_route.specs.Halving.{IsRange}
use Rattle.msp_slots.specs.Places.{ArePlaces}
use Rattle.msp_pieces.proofs.lists.Positions.{count_at_most_one}
use Rattle.msp_due.specs.Steps.{cost_in, IsGreatestCost, CanPlace}
use Rattle.msp_due.proofs.DueSlots.{cost_in-mono}
use Rattle.msp_due.proofs.Facts.{HasOneTime}

pub cost_fits : (x : ℤ) → LiesWithin greatest_cost x → FitsSigned w128 x
cost_fits x h = omega (arith, ints, h.0, h.1)

-- ---- the greatest cost of one job more
pub greatest-next : (i : Instance) (slots k : ℕ) (old x a b new : ℤ) → a ≡ old → b ≡ to_z w128 (of_z w128 x)
    → new ≡ int_max a b → x ≡ cost_in i k slots → LiesWithin greatest_cost x → IsGreatestCost i slots k old → LiesWithin greatest_cost old
    → IsGreatestCost i slots (k + 1) (to_z w128 (of_z w128 new)) × LiesWithin greatest_cost (to_z w128 (of_z w128 new))
greatest-next i slots k old x a b new f g m is small h size =
    subst (λ z. IsGreatestCost i slots (k + 1) z × LiesWithin greatest_cost z) (sym (to_z-of_z w128 new (cost_fits new new_size))) (record { reached = reached; greatest = greatest }, new_size)
  where
    is_max : new ≡ int_max old x
    is_max = m ∙ ap₂ int_max f (g ∙ to_z-of_z w128 x (cost_fits x small))

    new_size : LiesWithin greatest_cost new
    new_size = (≤ℤ_trans size.0 (subst (λ z. old ≤ℤ z) (sym is_max) (≤ℤ-int_max_left old x)), subst (λ z. z ≤ℤ pos greatest_cost) (sym is_max) (int_max-least size.1 small.1))

    reached : (j : ℕ) × (j < k + 1) × (cost_in i j slots ≡ new)
    reached = elim (≤ℤ_total old x) [
      | inl rises ↦ (k, omega arith, sym is ∙ sym (is_max ∙ int_max-right old x rises))
      | inr falls ↦ let (j, l, e) = h.reached in (j, omega (arith, l), e ∙ sym (is_max ∙ int_max-left old x (<ℤ_weak falls)))
    ]

    greatest : (j : ℕ) → j < k + 1 → cost_in i j slots ≤ℤ new
    greatest = below_more (λ j. cost_in i j slots ≤ℤ new) k
        (λ j before. subst (λ z. cost_in i j slots ≤ℤ z) (sym is_max) (≤ℤ_trans (h.greatest j before) (≤ℤ-int_max_left old x)))
        (subst₂ (λ y z. y ≤ℤ z) is (sym is_max) (≤ℤ-int_max_right old x))

-- ---- jobs in a forward order, one in each slot
module _ (i : Instance) (t : HasOneTime i) (order : List ℕ) (s : IsSequence i order) (forward : All (GoesForward order) i.arcs) where
  abbrev n : ℕ
  n = length i.jobs

  distinct : AllPairs (λ x y. x ≢ y) order
  distinct = OnceBelow-distinct (OnceBelow-from_sequence i order s)

  at_place : (j : ℕ) → j < n → (place_in order j < n) × (get_or order (place_in order j) 0 ≡ j)
  at_place j l =
      let (k, inside, is) = s.each j l in
      let there : get_or order k 0 ≡ j = get_or_default order k 0 j inside ∙ is in
      let same : place_in order j ≡ k = ap (place_in order) (sym there) ∙ place_in-is order k distinct inside in
      (omega (arith, same, inside, s.whole), ap (λ p. get_or order p 0) same ∙ there)

  alone : (a b : ℕ) → a < n → b < n → place_in order a ≡ place_in order b → a ≡ b
  alone a b k l e = sym (at_place a k).1 ∙ ap (λ p. get_or order p 0) e ∙ (at_place b l).1

  rise : (a : Arc) → GoesForward order a → place_in order a.before < place_in order a.after
  rise a (p, q, less, hp, hq) = omega (arith, at a.before p hp, at a.after q hq, less)
    where
      at : (j p : ℕ) → slice_get order p ≡ Some j → place_in order j ≡ p
      at j p h = ap (place_in order) (sym (get_or_from_slice_get order p j 0 h)) ∙ place_in-is order p distinct (slice_get_within order p j h)

  in_a_row : ArePlaces i (place_in order)
  in_a_row = record {
    few = λ x. omega (arith, count_at_most_one n (λ j. eqb (place_in order j) x) (λ a b k l e f. alone a b k l (eqb-true (place_in order a) x e ∙ sym (eqb-true (place_in order b) x f))), t.machine);
    forward = λ k d l. rise (get_or i.arcs k d) (forward k d l);
    early = λ j l. (at_place j l).0;
  }

  row_costs : (high : ℤ) → IsGreatestCost i n n high → CanPlace i high
  row_costs high h = (place_in order, in_a_row, λ j l. ≤ℤ_trans (cost_in-mono i j (place_in order j + 1) n (omega (arith, (at_place j l).0))) (h.greatest j l))

-- no place is before the first slot is over
first_costs : (i : Instance) (low bound : ℤ) → IsGreatestCost i 1 (length i.jobs) low → CanPlace i bound → low ≤ℤ bound
first_costs i low bound h (place, places, met) = let (j, l, e) = h.reached in subst (λ x. x ≤ℤ bound) e (≤ℤ_trans (cost_in-mono i j 1 (place j + 1) (omega arith)) (met j l))

pub range_at : (i : Instance) → HasOneTime i → (low high : ℤ) (many : ℕ) → many ≡ length i.jobs
    → IsGreatestCost i 1 (length i.jobs) low → LiesWithin greatest_cost low → IsGreatestCost i many (length i.jobs) high → LiesWithin greatest_cost high
    → IsRange (CanPlace i) greatest_cost (record { low = to_z w128 (of_z w128 low); high = to_z w128 (of_z w128 high) })
range_at i t low high many e first small last size =
    subst₂ (λ x y. IsRange (CanPlace i) greatest_cost (record { low = x; high = y })) (sym (to_z-of_z w128 low (cost_fits low small))) (sym (to_z-of_z w128 high (cost_fits high size))) (record {
      met = let (order, s, forward) = t.acyclic in row_costs i t order s forward high (subst (λ k. IsGreatestCost i k (length i.jobs) high) e last);
      least = λ bound can. first_costs i low bound first can;
      low = small;
      high = size;
    })
