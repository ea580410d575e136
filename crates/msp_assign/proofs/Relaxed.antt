-- A row's edges to the columns that are left, column after column.
use Rattle.std.proofs.Common.{◌≡◌, ◌≢◌, ℕ, ◌+◌, ◌*◌, ◌<◌, ◌≤◌, ◌⊎◌, inl, inr, List, length, min, AllPairs, sym, ap, subst, ◌∙◌, arith, refl}
use Rattle.msp_assign.specs.Passing.{at}
use Rattle.msp_class.proofs.Cases.{same_or_not, less_or_not}
use Rattle.msp_assign.specs.declared.search.TheConstants.{FAR}
use Rattle.msp_assign.specs.Search.{paid, IsWay, IsRelaxedAt, IsRelaxed, IsShortened, AreNearest, IsLeastSoFar, greatest_payment}
use Rattle.std.proofs.Math.Nat.{min-le_left, min-le_right, min-eq_left, min-eq_right}
use Rattle.msp_assign.proofs.Lists.{Contains-at, at-Contains}

module _ (cost : ℕ → ℕ → ℕ) (fall : List ℕ) (r place depth own : ℕ) (left distance «from» : List ℕ) where
  -- the first k of the columns that are left, and how far the nearest of them is, if that is not `most`
  pub record IsRelaxing (most : ℕ) (next next_from : List ℕ) (k far : ℕ) : Type 0 where
    pub before : (j : ℕ) → j < k → IsRelaxedAt cost fall r place depth own distance «from» next next_from (at left j)
    pub others : (c : ℕ) → ((j : ℕ) → j < k → at left j ≢ c) → (at next c ≡ at distance c) × (at next_from c ≡ at «from» c)
    pub least : (j : ℕ) → j < k → far ≤ at next (at left j)
    pub attained : (far ≡ most) ⊎ ((j : ℕ) × (j < k) × (far ≡ at next (at left j)))

  -- read where the lists agree
  IsRelaxedAt-same : (next next_from last last_from : List ℕ) (c : ℕ) → at last c ≡ at next c → at last_from c ≡ at next_from c
      → IsRelaxedAt cost fall r place depth own distance «from» next next_from c → IsRelaxedAt cost fall r place depth own distance «from» last last_from c
  IsRelaxedAt-same next next_from last last_from c d e h = record {
    fewer = omega (arith, h.fewer);
    close = omega (arith, h.close);
    change = elim h.change [
      | inl s ↦ inl (d ∙ s.0, e ∙ s.1)
      | inr s ↦ inr (e ∙ s.0, ap (λ x. x + own) d ∙ s.1)
    ];
  }

  -- the column that is shortened, where it was as at first
  IsRelaxedAt-shortened : (next next_from last last_from : List ℕ) (c far shortest : ℕ) → at next c ≡ at distance c → at next_from c ≡ at «from» c → IsWay cost fall r depth own c far
      → IsShortened far place next next_from last last_from c shortest → IsRelaxedAt cost fall r place depth own distance «from» last last_from c
  IsRelaxedAt-shortened next next_from last last_from c far shortest a b w s = record {
    fewer = omega (arith, s.here, s.fewer, a);
    close = omega (arith, s.here, s.close, w);
    change = elim s.change [
      | inl x ↦ inl (x.0 ∙ a, x.1 ∙ b)
      | inr x ↦ inr (x.0, ap (λ y. y + own) x.1 ∙ w)
    ];
  }

  -- those that are as near as the row stay so
  module _ (near : ℕ) (first : AreNearest distance left near depth) (pays : (j : ℕ) → j < length left → own ≤ paid cost fall r (at left j)) where
    pub IsRelaxing-start : (far : ℕ) → IsLeastSoFar near depth far → IsRelaxing FAR distance «from» near far
    IsRelaxing-start far s = record {
      before = λ j l. record { fewer = omega arith; close = omega (arith, first.same j l, pays j (omega (arith, l, first.inside))); change = inl (refl, refl) };
      others = λ c h. (refl, refl);
      least = λ j l. elim s [ inl a ↦ absurd (omega (arith, a.0, l)) | inr a ↦ omega (arith, a.1, first.same j l) ];
      attained = elim s [ inl a ↦ inl a.1 | inr a ↦ inr (0, omega (arith, a.0), a.1 ∙ sym (first.same 0 (omega (arith, a.0)))) ];
    }

    module _ (most : ℕ) (next next_from : List ℕ) (k far : ℕ) (e : k ≡ length left) (h : IsRelaxing most next next_from k far)
        (some : 0 < length left) (a : depth ≤ greatest_payment) (b : paid cost fall r (at left 0) ≤ greatest_payment) (m : 2 * greatest_payment < most) where
      -- a column that is left is nearer than `most`
      attained : (j : ℕ) × (j < length left) × (at next (at left j) ≡ far)
      attained = elim h.attained [
        | inl q ↦ absurd (omega (arith, q, h.least 0 (omega (arith, e, some)), (h.before 0 (omega (arith, e, some))).close, a, b, m))
        | inr q ↦ (q.0, omega (arith, q.1, e), sym q.2)
      ]

      no_nearer : (j : ℕ) → j < length left → depth ≤ at next (at left j)
      no_nearer j l = elim (h.before j (omega (arith, e, l))).change [
        | inl s ↦ omega (arith, s.0, first.least j l)
        | inr s ↦ omega (arith, s.1, pays j l)
      ]

      as_near : (j : ℕ) → j < near → at next (at left j) ≡ far
      as_near j l =
          let lj : j < length left = omega (arith, l, first.inside) in
          let lk : j < k = omega (arith, e, lj) in
          omega (arith, (h.before j lk).fewer, first.same j l, no_nearer j lj, h.least j lk, attained.2, no_nearer attained.0 attained.1)

      pub IsNear-relaxed : AreNearest next left near far × ((j : ℕ) × (j < length left) × (at next (at left j) ≡ far))
      IsNear-relaxed = (record { inside = first.inside; same = as_near; least = λ j l. h.least j (omega (arith, e, l)) }, attained)

  module _ (apart : AllPairs (λ c d. c ≢ d) left) (most : ℕ) (next next_from last last_from : List ℕ) (k far : ℕ) (h : IsRelaxing most next next_from k far) (inside : k < length left) where
    pub IsRelaxing-next : (c way shortest far2 : ℕ) → c ≡ at left k → IsWay cost fall r depth own c way → IsShortened way place next next_from last last_from c shortest
        → far2 ≡ min far shortest → IsRelaxing most last last_from (k + 1) far2
    IsRelaxing-next c way shortest far2 e w s n = record {
      before = λ j l. elim (same_or_not j k) [
        | inl q ↦ subst (IsRelaxedAt cost fall r place depth own distance «from» last last_from) (e ∙ sym (ap (at left) q))
            (IsRelaxedAt-shortened next next_from last last_from c way shortest (h.others c fresh).0 (h.others c fresh).1 w s)
        | inr q ↦ IsRelaxedAt-same next next_from last last_from
            (at left j) (s.others (at left j) (fresh j (omega arith))).0 (s.others (at left j) (fresh j (omega arith))).1 (h.before j (omega arith))
      ];
      others = λ d q.
          let nd : d ≢ c = λ x. q k (omega arith) (sym e ∙ sym x) in
          let o = h.others d (λ j l. q j (omega arith)) in
          ((s.others d nd).0 ∙ o.0, (s.others d nd).1 ∙ o.1);
      least = λ j l. elim (same_or_not j k) [
        | inl q ↦ subst (λ x. far2 ≤ at last x) (e ∙ sym (ap (at left) q)) (omega (arith, n, min-le_right far shortest, s.here))
        | inr q ↦ omega (arith, n, min-le_left far shortest, h.least j (omega arith), (s.others (at left j) (fresh j (omega arith))).0)
      ];
      attained = elim (less_or_not far shortest) [
        | inl a ↦
            let is : far2 ≡ far = n ∙ min-eq_left (omega (arith, a)) in
            elim h.attained [
              | inl q ↦ inl (is ∙ q)
              | inr q ↦ inr (q.0, omega (arith, q.1), is ∙ q.2 ∙ sym (s.others (at left q.0) (fresh q.0 q.1)).0)
            ]
        | inr a ↦ inr (k, omega arith, n ∙ min-eq_right a ∙ sym s.here ∙ ap (at last) e)
      ];
    }
      where
        fresh : (j : ℕ) → j < k → at left j ≢ c
        fresh j l x = apart j k 0 l inside (x ∙ e)

  pub IsRelaxed-from_all : (most : ℕ) (next next_from : List ℕ) (k far : ℕ)
      → k ≡ length left → IsRelaxing most next next_from k far → IsRelaxed cost fall r place depth own left distance «from» next next_from
  IsRelaxed-from_all most next next_from k far e h = record {
    each = λ c m. let w = at-Contains left c m in subst (IsRelaxedAt cost fall r place depth own distance «from» next next_from) w.2 (h.before w.0 (omega (arith, e, w.1)));
    others = λ c n. h.others c (λ j l x. n (Contains-at left j c (omega (arith, e, l)) x));
  }
