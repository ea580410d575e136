-- Prices to begin from, and those at the end, of which the greatest is 0.
use Rattle.std.proofs.Common.{◌≡◌, ℕ, ◌+◌, ◌-◌, ◌<◌, ◌≤◌, inl, inr, refl, ℤ, nat_abs, List, length, set, min, sym, ap, subst, ◌∙◌, arith}
use Rattle.std.proofs.Math.Nat.{min-le_left, min-le_right, min-eq_left, min-eq_right}
use Rattle.std.proofs.lemmas.Int.{ints}
use Rattle.std.proofs.lemmas.List.{get_or-set_same, get_or-set_other, length-set}
use Rattle.msp_class.proofs.Cases.{same_or_not, less_or_not}
use Rattle.msp_assign.specs.Passing.{at}
use Rattle.msp_assign.specs.declared.column.Column.{Column}
use Rattle.msp_assign.specs.Prices.{HasCosts}
use Rattle.msp_assign.specs.Search.{greatest_charge, sizes, paid, IsCheapest, IsPlaced}
use Rattle.msp_assign.specs.Square.{raised, AreNormal, IsLeastTogether}
use Rattle.msp_assign.specs.View.{number_at, seen, AreFirst, IsView, IsPlacement}
use Rattle.msp_assign.proofs.Lists.{at-Contains}
use Rattle.msp_assign.proofs.Squares.{all_taken}
use Rattle.msp_assign.proofs.Views.{IsView-first}

-- ---- the least that columns have fallen together with their beginning
pub IsLeastTogether-start : (fall begun : List ℕ) (x : ℕ) → x ≡ at fall 0 + at begun 0 → IsLeastTogether fall begun 1 x
IsLeastTogether-start fall begun x e = record {
  least = λ c l. omega (arith, e, ap (λ k. at fall k + at begun k) (let first : c ≡ 0 = omega arith in first));
  attained = (0, omega arith, sym e);
}

pub IsLeastTogether-next : (fall begun : List ℕ) (k least x least2 : ℕ)
    → IsLeastTogether fall begun k least → x ≡ at fall k + at begun k → least2 ≡ min least x → IsLeastTogether fall begun (k + 1) least2
IsLeastTogether-next fall begun k least x least2 h e m = record {
  least = λ c l. elim (same_or_not c k) [
    | inl s ↦ omega (arith, m, min-le_right least x, e, ap (λ k. at fall k + at begun k) s)
    | inr n ↦ omega (arith, m, min-le_left least x, h.least c (omega arith))
  ];
  attained = elim (less_or_not least x) [
    | inl a ↦ (h.attained.0, omega (arith, h.attained.1), h.attained.2 ∙ sym (m ∙ min-eq_left (omega (arith, a))))
    | inr a ↦ (k, omega arith, sym e ∙ sym (m ∙ min-eq_right a))
  ];
}

pub IsLeastTogether-end : (fall begun : List ℕ) (k least : ℕ) → k ≡ length fall → IsLeastTogether fall begun k least → IsLeastTogether fall begun (length fall) least
IsLeastTogether-end fall begun k least e h = subst (λ n. IsLeastTogether fall begun n least) e h

-- ---- each less by the least
pub record IsNormalising (fall begun : List ℕ) (least : ℕ) (next : List ℕ) (k : ℕ) : Type 0 where
  pub size : length next ≡ length fall
  pub done : (c : ℕ) → c < k → at next c + least ≡ at fall c + at begun c
  pub rest : (c : ℕ) → k ≤ c → at next c ≡ at fall c

pub IsNormalising-start : (fall begun : List ℕ) (least : ℕ) → IsNormalising fall begun least fall 0
IsNormalising-start fall begun least = record { size = refl; done = λ c l. absurd (omega (arith, l)); rest = λ c l. refl }

pub IsNormalising-next : (fall begun : List ℕ) (least : ℕ) (next : List ℕ) (k x : ℕ) → IsNormalising fall begun least next k → k < length fall
    → least ≤ at fall k + at begun k → x ≡ at next k + at begun k - least → IsNormalising fall begun least (set next k x) (k + 1)
IsNormalising-next fall begun least next k x h l low e = record {
  size = length-set next k x ∙ h.size;
  done = λ c lc. elim (same_or_not c k) [
    | inl s ↦ subst (λ c. at (set next k x) c + least ≡ at fall c + at begun c) (sym s)
        (omega (arith, get_or-set_same next k x 0 (omega (arith, h.size, l)), e, h.rest k (omega arith), low))
    | inr n ↦ omega (arith, get_or-set_other next k c x 0 n, h.done c (omega arith))
  ];
  rest = λ c lc. get_or-set_other next k c x 0 (λ s. omega (arith, lc, s)) ∙ h.rest c (omega (arith, lc));
}

pub AreNormal-end : (fall begun : List ℕ) (least : ℕ) (next : List ℕ) (k : ℕ) → k ≡ length fall → IsNormalising fall begun least next k → AreNormal fall begun least next
AreNormal-end fall begun least next k e h = record { size = h.size; each = λ c l. h.done c (omega (arith, e, l)) }

-- ---- the placement at the end
module _ (n : ℕ) (cost : ℕ → ℕ → ℤ) (begun fall used : List ℕ) (costs : HasCosts n n cost) (p : IsPlaced (sizes (raised cost begun)) n fall used) (whole : length used ≡ n)
    (least : ℕ) (together : IsLeastTogether fall begun (length fall) least) (next : List ℕ) (normal : AreNormal fall begun least next) where
  paid_next : (r c : ℕ) → r < n → c < n → paid (sizes cost) next r c + least ≡ paid (sizes (raised cost begun)) fall r c
  paid_next r c lr lc = omega (arith, ints, (costs r c lr lc).0, normal.each c (omega (arith, lc, p.size)))

  cheapest : (r : ℕ) → r < n → IsCheapest (sizes cost) n next r (at used r)
  cheapest r l = record {
    cheapest = λ d ld.
        omega (arith, paid_next r (at used r) l (p.inside r 0 (omega (arith, l, whole))), paid_next r d l ld, (p.cheapest r (omega (arith, l, whole))).cheapest d ld);
  }

  zero_at : (at next together.attained.0 ≡ 0) × (together.attained.0 < n)
  zero_at = (omega (arith, normal.each together.attained.0 together.attained.1, together.attained.2), omega (arith, together.attained.1, p.size))

  -- its row pays no more at it than at the column that has not fallen
  low : (c : ℕ) → c < n → at next c ≤ greatest_charge
  low c l =
      let w = at-Contains used c (all_taken n used p.inside p.apart whole c l) in
      let lr : w.0 < n = omega (arith, w.1, whole) in
      let z = together.attained.0 in
      let k = (cheapest w.0 lr).cheapest z zero_at.1 in
      let s = costs w.0 z lr zero_at.1 in
      omega (arith, ints, k, s.0, s.1, zero_at.0, ap (at next) w.2)

  module _ (columns : List Column) (first : AreFirst n columns) where
    number_is : (k : ℕ) → k < n → number_at 1 columns k ≡ k
    number_is k l = omega (arith, (first.each k l).0, (first.each k l).1)

    seen_paid : (r c : ℕ) → c < n → paid (sizes (seen cost 1 columns)) next r c ≡ paid (sizes cost) next r c
    seen_paid r c l = ap (λ x. nat_abs (cost r x) + at next c) (number_is c l)

    placed : IsPlaced (sizes (seen cost 1 columns)) n next used
    placed = record {
      size = normal.size ∙ p.size;
      low = low;
      inside = p.inside;
      apart = p.apart;
      cheapest = λ r l. record {
        cheapest = λ d ld.
            let own : at used r < n = p.inside r 0 l in
            omega (arith, seen_paid r (at used r) own, seen_paid r d ld, (cheapest r (omega (arith, l, whole))).cheapest d ld);
      };
      unused = λ c l m. absurd (m (all_taken n used p.inside p.apart whole c l));
    }

    view : IsView n 1 columns used
    view = let v = IsView-first n 1 columns first (omega arith) in record {
      inside = v.inside;
      once = v.once;
      behind = λ j k lj lk e s. absurd (omega (arith, s, first.each k (omega (arith, lk, first.count))));
      ahead = λ l k a b. let c = first.each l a in (l, omega (arith, a, first.count), c.0, omega (arith, c.1), inl (omega (arith, c.1, b)));
    }

    pub IsPlacement-normal : IsPlacement n n 1 cost columns next used
    IsPlacement-normal = record {
      all = whole;
      placed = subst (λ m. IsPlaced (sizes (seen cost 1 columns)) m next used) (sym first.count) placed;
      view = view;
      few = omega (arith, first.count);
      zero = (together.attained.0, omega (arith, zero_at.1, first.count), zero_at.0);
    }

-- as the code has it
pub IsPlacement-read : (rows columns : ℕ) (cost : ℕ → ℕ → ℤ) (begun fall fall2 fall3 used : List ℕ) (least : ℕ) (next next2 : List ℕ) (firsts : List Column) (count : ℕ)
    → columns ≡ rows → HasCosts rows columns cost → IsPlaced (sizes (raised cost begun)) columns fall used → length used ≡ rows
    → fall2 ≡ fall → fall3 ≡ fall → next2 ≡ next → IsLeastTogether fall2 begun (length fall2) least → AreNormal fall3 begun least next → count ≡ columns → AreFirst count firsts
    → IsPlacement rows columns 1 cost firsts next2 used
IsPlacement-read rows columns cost begun fall fall2 fall3 used least next next2 firsts count e costs p whole ef e3 en together normal ec first =
    subst (λ n. IsPlacement n columns 1 cost firsts next2 used) e
    (subst (λ x. IsPlacement columns columns 1 cost firsts x used) (sym en)
    (IsPlacement-normal columns cost begun fall used (subst (λ n. HasCosts n columns cost) (sym e) costs) p (whole ∙ sym e) least
    (subst (λ x. IsLeastTogether x begun (length x) least) ef together) next (subst (λ x. AreNormal x begun least next) e3 normal) firsts (subst (λ n. AreFirst n firsts) ec first)))
