-- Johnson's order of two stages: no way through the items takes longer, where each is laid as early as the order allows, than any two stages of them.
use Rattle.std.proofs.Common.{ℕ, ◌+◌, ◌*◌, ◌≤◌, ◌<◌, ◌⊎◌, min, cond, leb, List, [], ◌∷◌, ◌++◌, All, AllPairs, Contains, sum_by, refl, arith, subst₂, length, length-append, le_trans, mul-le-mul_left, inl, inr}
use Rattle.std.proofs.lemmas.Bool.{cond_both, leb-false, cases_lt}
use Rattle.std.proofs.lemmas.List.Elements.{Contains-append_right}
use Rattle.std.proofs.lemmas.List.{get_or_append_left}
use Rattle.std.proofs.Math.Seq.{get_or-append_seam}
use Rattle.std.proofs.lemmas.Bool.Decides.{nat_tests}
use Rattle.msp_class.proofs.Sums.{sum_by-cons, sum_by-append, sum_by-mono, AllPairs-head, AllPairs-tail}
use Rattle.msp_shops.specs.Order.{GoesBefore}
use Rattle.msp_shops.proofs.Cut.{HaveTwoStages}
use Rattle.msp_shops.proofs.Threshold.{added, threshold, threshold_from_end}

-- ---- what stands before an item of a list, and after it
module _ {X : Type 0} (R : X → X → Type 0) where
  pub all_before : (l1 : List X) (k : X) (l2 : List X) → AllPairs R (l1 ++ k ∷ l2) → All (λ x. R x k) l1
  all_before l1 k l2 h i d l = subst₂ R (get_or_append_left l1 (k ∷ l2) d i l)
      (get_or-append_seam l1 k l2 d) (h i (length l1) d l (omega (arith, length-append l1 (k ∷ l2))))

  pub all_after : (l1 : List X) (k : X) (l2 : List X) → AllPairs R (l1 ++ k ∷ l2) → All (R k) l2
  all_after [] k l2 h = AllPairs-head R k l2 h
  all_after (x ∷ l1) k l2 h = all_after l1 k l2 (AllPairs-tail R x (l1 ++ k ∷ l2) h)

-- ---- the bound
module _ {X : Type 0} (first second : X → ℕ) where
  -- the time of the way through the items that changes the machine at item k
  abbrev pub way : List X → X → List X → ℕ
  way l1 k l2 = ((sum_by first l1 + first k) + second k) + sum_by second l2

  -- what the two laws count around k is at least that
  counts : (g : X → ℕ) (l1 : List X) (k : X) (l2 : List X) → All (λ x. first x ≤ g x) l1
      → All (λ x. second x ≤ g x) l2 → (least : ℕ) → first k + second k ≤ least + g k → way l1 k l2 ≤ least + sum_by g (l1 ++ k ∷ l2)
  counts g l1 k l2 before after least own = omega (arith, sum_by-append g l1 (k ∷ l2), sum_by-cons g k l2, sum_by-mono first g l1 before, sum_by-mono second g l2 after, own)

  -- k in the first group
  early_before : (a b c d : ℕ) → c ≤ d → ((a ≤ b) × ((d < c) ⊎ (a ≤ c))) ⊎ ((b < a) × (d < c) × (d ≤ b)) → a ≤ cond (leb c a) b (min a b)
  early_before a b c d l h = grind (arith, nat_tests)

  early_after : (c d a b : ℕ) → c ≤ d → ((c ≤ d) × ((b < a) ⊎ (c ≤ a))) ⊎ ((d < c) × (b < a) × (b ≤ d)) → b ≤ cond (leb c a) b (min a b)
  early_after c d a b l h = grind (arith, nat_tests)

  early_own : (c d : ℕ) → c + d ≤ c + cond (leb c c) d (min c d)
  early_own c d = cond_both (leb c c) d (min c d) (λ x. c + d ≤ c + x) (λ _. omega arith) (λ e. absurd (omega (arith, leb-false c c e)))

  -- k in the second group
  late_before : (a b c d : ℕ) → d < c → ((a ≤ b) × ((d < c) ⊎ (a ≤ c))) ⊎ ((b < a) × (d < c) × (d ≤ b)) → a ≤ cond (leb d b) a (min b a)
  late_before a b c d l h = grind (arith, nat_tests)

  late_after : (c d a b : ℕ) → d < c → ((c ≤ d) × ((b < a) ⊎ (c ≤ a))) ⊎ ((d < c) × (b < a) × (b ≤ d)) → b ≤ cond (leb d b) a (min b a)
  late_after c d a b l h = grind (arith, nat_tests)

  late_own : (c d : ℕ) → c + d ≤ d + cond (leb d d) c (min d c)
  late_own c d = cond_both (leb d d) c (min d c) (λ x. c + d ≤ d + x) (λ _. omega arith) (λ e. absurd (omega (arith, leb-false d d e)))

  pub johnson_bound : (ready : X → ℕ) (unit end : ℕ) (l1 : List X) (k : X) (l2 : List X)
      → AllPairs (GoesBefore first second) (l1 ++ k ∷ l2) → HaveTwoStages first second ready unit end (l1 ++ k ∷ l2) → unit * way l1 k l2 ≤ end
  johnson_bound ready unit end l1 k l2 order h = elim (cases_lt (second k) (first k)) [
    | inr l ↦ le_trans (mul-le-mul_left unit
        (counts (added first second (first k)) l1 k l2 (λ i d m. early_before _ _ _ _ l (before i d m)) (λ i d m. early_after _ _ _ _ l (after i d m)) _ (early_own (first k) (second k))))
        (threshold first second ready unit end (l1 ++ k ∷ l2) h (first k) k here (omega arith))
    | inl l ↦ le_trans (mul-le-mul_left unit
        (counts (added second first (second k)) l1 k l2 (λ i d m. late_before _ _ _ _ l (before i d m)) (λ i d m. late_after _ _ _ _ l (after i d m)) _ (late_own (first k) (second k))))
        (threshold_from_end first second ready unit end (l1 ++ k ∷ l2) h (second k) k here (omega arith))
  ]
    where
      before : All (λ x. GoesBefore first second x k) l1
      before = all_before (GoesBefore first second) l1 k l2 order

      after : All (GoesBefore first second k) l2
      after = all_after (GoesBefore first second) l1 k l2 order

      here : Contains (l1 ++ k ∷ l2) k
      here = Contains-append_right l1 (k ∷ l2) k (0, omega arith, refl)
