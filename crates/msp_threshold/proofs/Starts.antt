-- The moments at which slots begin, each once: the kept moments.
use Rattle.std.proofs.Common.{◌≡◌, ℕ, ◌+◌, ◌*◌, ◌<◌, ◌≤◌, eqb, List, [], ◌∷◌, length, map, All, AllPairs, Contains, IsPermutation, sym, ap, subst, subst₂, arith}
use Rattle.std.specs.List.{dedup, dedup_from}
use Rattle.std.proofs.lemmas.Bool.{cond_both, eqb-false}
use Rattle.std.proofs.lemmas.List.{length-map, get_or-map}
use Rattle.std.proofs.lemmas.List.Elements.{All-cons, All-tail, All-map}
use Rattle.std.proofs.lemmas.List.Filters.{All-dedup}
use Rattle.std.proofs.lemmas.List.Kept.{AllPairs-cons, Contains-dedup_nat, Contains-from_dedup}
use Rattle.std.proofs.lemmas.List.Sorted.{All-permutation}
use Rattle.std.proofs.Math.Numerals.{lt_of_le_of_ne}
use Rattle.msp_class.specs.declared.sizes.TheConstants.{MOST_JOBS, GREATEST}
use Rattle.msp_class.proofs.Sums.{AllPairs-head, AllPairs-tail}
use Rattle.msp_instance.specs.declared.Instance.{Instance}
use Rattle.msp_slots.specs.declared.earliest.Slot.{Slot}
use Rattle.msp_slots.specs.Earliest.{no_slot, AreSlots}
use Rattle.msp_slots.proofs.SlotPlaces.{heads_many}
use Rattle.msp_threshold.specs.Squeezed.{AreKept}
use Rattle.msp_threshold.proofs.Facts.{IsLatenessShop}

abbrev Up : List ℕ → Type 0
Up xs = AllPairs (λ a b. a ≤ b) xs

-- each number once leaves a list that rises
dedup_rising : (k : ℕ) (xs : List ℕ) → Up (k ∷ xs) → AllPairs (λ a b. a < b) (dedup_from eqb k xs)
dedup_rising k [] h = λ i j d a b. absurd (omega (arith, a, b))
dedup_rising k (x ∷ xs) h =
    let from_k = AllPairs-head (λ a b. a ≤ b) k (x ∷ xs) h in
    let rest = AllPairs-tail (λ a b. a ≤ b) k (x ∷ xs) h in
    cond_both (eqb x k) (dedup_from eqb k xs) (k ∷ dedup_from eqb x xs) (AllPairs (λ a b. a < b))
    (λ _. dedup_rising k xs (AllPairs-cons (λ a b. a ≤ b) k xs (All-tail (λ b. k ≤ b) x xs from_k) (AllPairs-tail (λ a b. a ≤ b) x xs rest)))
    (λ f.
    let less : k < x = lt_of_le_of_ne (from_k 0 0 (omega arith)) (λ e. eqb-false x k f (sym e)) in
    AllPairs-cons (λ a b. a < b) k (dedup_from eqb x xs)
    (All-dedup eqb (λ y. k < y) (x ∷ xs) (All-cons (λ y. k < y) x xs less (λ m d l. omega (arith, less, AllPairs-head (λ a b. a ≤ b) x xs rest m d l)))) (dedup_rising x xs rest))

rising : (xs : List ℕ) → Up xs → AllPairs (λ a b. a < b) (dedup eqb xs)
rising [] h = λ i j d a b. absurd (omega (arith, b))
rising (x ∷ xs) h = dedup_rising x xs h

starts_rise : (m : ℕ) (heads : List ℕ) (slots : List Slot) → AreSlots m heads slots → Up (map (λ s. s.start) slots)
starts_rise m heads slots h a b d l k =
    let kb : b < length slots = omega (arith, k, length-map slots (λ s. s.start)) in
    subst₂ (λ x y. x ≤ y) (sym (get_or-map (λ s. s.start) slots a no_slot d (omega (arith, l, kb))))
    (sym (get_or-map (λ s. s.start) slots b no_slot d kb)) (h.rises a b (omega (arith, l)) (omega (arith, kb, h.count)))

-- at the numbers as the code passes them
pub AreKept-from : (i : Instance) (heads : List ℕ) (slots : List Slot) (starts kept : List ℕ) → IsPermutation (map (λ j. j.release) i.jobs) heads
    → AreSlots i.machines heads slots → starts ≡ map (λ s. s.start) slots → kept ≡ dedup eqb starts → AreKept i kept
AreKept-from i heads slots starts kept all filled e f = record {
  heads = heads;
  slots = slots;
  all = all;
  filled = filled;
  rising = subst (AllPairs (λ a b. a < b)) (sym f) (rising starts (subst Up (sym e) (starts_rise i.machines heads slots filled)));
  each = λ x. subst₂ (λ xs ys. (Contains xs x → Contains ys x) × (Contains ys x → Contains xs x)) (sym f) e (Contains-from_dedup eqb starts x, Contains-dedup_nat starts x);
}

-- ---- how many
dedup_from-most : (k : ℕ) (xs : List ℕ) → length (dedup_from eqb k xs) ≤ length xs + 1
dedup_from-most k [] = omega arith
dedup_from-most k (x ∷ xs) = cond_both (eqb x k) (dedup_from eqb k xs)
    (k ∷ dedup_from eqb x xs) (λ l. length l ≤ length (x ∷ xs) + 1) (λ _. omega (arith, dedup_from-most k xs)) (λ _. omega (arith, dedup_from-most x xs))

dedup-most : (xs : List ℕ) → length (dedup eqb xs) ≤ length xs
dedup-most [] = omega arith
dedup-most (x ∷ xs) = omega (arith, dedup_from-most x xs)

pub kept_few : (m : ℕ) (heads : List ℕ) (slots : List Slot) (starts kept : List ℕ)
    → length heads ≤ MOST_JOBS → AreSlots m heads slots → starts ≡ map (λ s. s.start) slots → kept ≡ dedup eqb starts → length kept ≤ MOST_JOBS
kept_few m heads slots starts kept few filled e f = omega (arith, few, filled.count, ap length e, length-map slots (λ s. s.start), ap length f, dedup-most starts)

module _ (i : Instance) (t : IsLatenessShop i) (heads : List ℕ) (p : IsPermutation (map (λ j. j.release) i.jobs) heads) where
  pub heads_few : length heads ≤ MOST_JOBS
  heads_few = omega (arith, heads_many i heads p, t.few)

  pub heads_low : All (λ r. r ≤ 2 * GREATEST) heads
  heads_low = All-permutation (λ r. r ≤ 2 * GREATEST) (map (λ j. j.release) i.jobs) heads p
      (All-map (λ r. r ≤ 2 * GREATEST) (λ j. j.release) i.jobs (λ k d l. (t.jobs k d l).release))
