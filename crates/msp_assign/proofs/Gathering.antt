-- The nearest columns come first, column after column.
use Rattle.std.proofs.Common.{◌≡◌, ◌≢◌, ℕ, ◌+◌, ◌<◌, ◌≤◌, inl, inr, List, length, IsPermutation, sym, ap, subst, ◌∙◌, arith, refl}
use Rattle.std.specs.List.{SwappedAt}
use Rattle.std.proofs.lemmas.List.Sorted.{Contains-permutation, IsPermutation-sym, IsPermutation-refl, IsPermutation-trans, length_permutation}
use Rattle.msp_assign.specs.Passing.{at}
use Rattle.msp_class.proofs.Cases.{same_or_not}
use Rattle.msp_assign.specs.Search.{IsNearest, AreNearest}
use Rattle.msp_assign.proofs.Lists.{Contains-at, at-Contains}

-- of the first k columns those that are so far stand first, if there are some
pub record IsGathering (distance left next : List ℕ) (far k near : ℕ) : Type 0 where
  pub same : IsPermutation left next
  pub nearest : AreNearest distance next near far
  pub within : near ≤ k
  pub missed : near ≡ 0 → (j : ℕ) → j < k → at distance (at next j) ≢ far

pub IsGathering-start : (distance left : List ℕ) (far near : ℕ) → AreNearest distance left near far → IsGathering distance left left far near near
IsGathering-start distance left far near h = record { same = IsPermutation-refl left; nearest = h; within = omega arith; missed = λ e j l. absurd (omega (arith, e, l)) }

module _ (distance left next : List ℕ) (far k near : ℕ) (h : IsGathering distance left next far k near) where
  pub IsGathering-farther : (c : ℕ) → c ≡ at next k → at distance c ≢ far → IsGathering distance left next far (k + 1) near
  IsGathering-farther c e n = record {
    same = h.same;
    nearest = h.nearest;
    within = omega (arith, h.within);
    missed = λ z j l. elim (same_or_not j k) [
      | inl q ↦ λ x. n (ap (at distance) (e ∙ sym (ap (at next) q)) ∙ x)
      | inr q ↦ h.missed z j (omega arith)
    ];
  }

  module _ (last : List ℕ) (c : ℕ) (e : c ≡ at next k) (as_far : at distance c ≡ far) (inside : k < length next) (p : IsPermutation next last) (s : SwappedAt next last k near) where
    pub IsGathering-swap : IsGathering distance left last far (k + 1) (near + 1)
    IsGathering-swap = record {
      same = IsPermutation-trans left next last h.same p;
      nearest = record {
        inside = omega (arith, h.within, inside, length_permutation next last p);
        same = λ j l. elim (same_or_not j near) [
          | inl q ↦ ap (λ x. at distance (at last x)) q ∙ ap (at distance) (s.1 0 ∙ sym e) ∙ as_far
          | inr q ↦ let b : j < near = omega arith in ap (at distance) (s.2 j 0 (omega (arith, b, h.within)) (omega (arith, b))) ∙ h.nearest.same j b
        ];
        least = λ j l.
            let m = at-Contains next (at last j) (Contains-permutation last next (at last j) (IsPermutation-sym next last p) (Contains-at last j (at last j) l refl)) in
            omega (arith, h.nearest.least m.0 m.1, ap (at distance) m.2);
      };
      within = omega (arith, h.within);
      missed = λ z. absurd (omega (arith, z));
    }

pub IsNearest-last : (distance left : List ℕ) (far near k : ℕ) → AreNearest distance left near far → near ≡ k + 1 → IsNearest distance left k
IsNearest-last distance left far near k h e =
    let here : far ≡ at distance (at left k) = sym (h.same k (omega (arith, e))) in
    subst (AreNearest distance left (k + 1)) here (subst (λ n. AreNearest distance left n far) e h)

-- some column was so far, so some stand first
pub some_near : (distance left next : List ℕ) (far k near : ℕ)
    → IsGathering distance left next far k near → k ≡ length next → ((j : ℕ) × (j < length left) × (at distance (at left j) ≡ far)) → 1 ≤ near
some_near distance left next far k near h e w = elim (same_or_not near 0) [
  | inl z ↦
      let m = at-Contains next (at left w.0) (Contains-permutation left next (at left w.0) h.same (Contains-at left w.0 (at left w.0) w.1 refl)) in
      absurd (h.missed z m.0 (omega (arith, e, m.1)) (ap (at distance) m.2 ∙ w.2))
  | inr n ↦ omega (arith, n)
]
