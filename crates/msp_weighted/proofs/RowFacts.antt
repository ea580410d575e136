-- One job is put into the table, from its latest end to its earliest.
use Rattle.std.proofs.Common.{◌≡◌, ℕ, ◌+◌, ◌-◌, ◌<◌, ◌≤◌, false, cond, inl, inr, List, get_or, ℤ, pos, ◌≤ℤ◌, ◌<ℤ◌, refl, sym, ap, ◌∙◌, arith}
use Rattle.std.specs.Prelude.{slice_index}
use Rattle.std.proofs.lemmas.Bool.{cases_lt}
use Rattle.msp_weighted.specs.declared.table.Entry.{Entry}
use Rattle.msp_weighted.specs.Values.{is_better, gains, value_with, is_flagged, IsPut}
use Rattle.msp_weighted.specs.Steps.{is_gain, value_at, IsPutFrom}
use Rattle.msp_weighted.proofs.ValueFacts.{gains-no, gains_early, gains_late, gains_inside, value_with-is}

-- the moments from `end` on are done
pub record IsRow (time weight : ℕ) (due : ℤ) (row width end : ℕ) (values flags values' flags' : List ℕ) : Type 0 where
  pub inside : end ≤ width
  pub early : (t : ℕ) → t < end → pos t ≤ℤ due
  pub kept : (t : ℕ) → t < end → get_or values' t 0 ≡ get_or values t 0
  pub done : (t : ℕ) → end ≤ t → t < width → get_or values' t 0 ≡ value_with time weight due (slice_index values) t
  pub flagged : (t : ℕ) → end ≤ t → t < width → is_flagged flags' (row + t) ≡ gains time weight due (slice_index values) t
  pub clear : (m : ℕ) → row ≤ m → m < row + end → is_flagged flags' m ≡ false
  pub before : (m : ℕ) → m < row → is_flagged flags' m ≡ is_flagged flags m
  pub behind : (m : ℕ) → row + width ≤ m → is_flagged flags' m ≡ is_flagged flags m

module _ (time weight : ℕ) (due : ℤ) (row width : ℕ) (values flags : List ℕ) where
  abbrev old : ℕ → ℕ
  old t = get_or values t 0

  pub row-start : (end : ℕ) → end ≤ width → ((t : ℕ) → t < end → pos t ≤ℤ due) → ((t : ℕ) → end ≤ t → t < width → due <ℤ pos t) → ((m : ℕ) → row ≤ m → is_flagged flags m ≡ false)
      → IsRow time weight due row width end values flags values flags
  row-start end l early late clear = record {
    inside = l;
    early = early;
    kept = λ t h. refl;
    done = λ t h k. sym (gains-no time weight due old t (gains_late time weight due old t (late t h k)));
    flagged = λ t h k. clear (row + t) (omega arith) ∙ sym (gains_late time weight due old t (late t h k));
    clear = λ m h k. clear m h;
    before = λ m h. refl;
    behind = λ m h. refl;
  }

  pub row-end : (end : ℕ) (v m : List ℕ) → end ≤ time → IsRow time weight due row width end values flags v m → IsPut time weight due row width values flags v m
  row-end end v m l h = record {
    value = λ t n. elim (cases_lt t end) [
      | inl a ↦ h.kept t a ∙ sym (gains-no time weight due old t (gains_early time weight due old t (omega (arith, a, l))))
      | inr a ↦ h.done t a n
    ];
    flagged = λ t n. elim (cases_lt t end) [
      | inl a ↦ h.clear (row + t) (omega arith) (omega (arith, a)) ∙ sym (gains_early time weight due old t (omega (arith, a, l)))
      | inr a ↦ h.flagged t a n
    ];
    before = h.before;
    behind = h.behind;
  }

-- one more range of moments
pub row-next : (e : Entry) (due : ℤ) (width first end : ℕ) (values flags v m v' m' : List ℕ) → e.time ≤ first → first ≤ end → 0 < e.time
    → IsRow e.time e.weight due e.row width end values flags v m → IsPutFrom e first end v m v' m' → IsRow e.time e.weight due e.row width first values flags v' m'
row-next e due width first end values flags v m v' m' l below some h p = record {
  inside = omega (arith, h.inside, below);
  early = λ t k. h.early t (omega (arith, k, below));
  kept = λ t k. p.kept t (inl k) ∙ h.kept t (omega (arith, k, below));
  done = λ t k n. elim (cases_lt t end) as (λ _. get_or v' t 0 ≡ value_with e.time e.weight due (slice_index values) t) [
    | inl a ↦ p.value t k a ∙ now t k a
    | inr a ↦ p.kept t (inr a) ∙ h.done t a n
  ];
  flagged = λ t k n. elim (cases_lt t end) as (λ _. is_flagged m' (e.row + t) ≡ gains e.time e.weight due (slice_index values) t) [
    | inl a ↦ p.flagged t k a ∙ gain t k a
    | inr a ↦ p.others (e.row + t) (inr (omega (arith, a))) ∙ h.flagged t a n
  ];
  clear = λ n a b. p.others n (inl b) ∙ h.clear n a (omega (arith, b, below));
  before = λ n a. p.others n (inl (omega (arith, a))) ∙ h.before n a;
  behind = λ n a. p.others n (inr (omega (arith, a, h.inside))) ∙ h.behind n a;
}
  where
    begin : (t : ℕ) → first ≤ t → t < end → get_or v (t - e.time) 0 ≡ get_or values (t - e.time) 0
    begin t k a = h.kept (t - e.time) (omega (arith, a))

    gain : (t : ℕ) → first ≤ t → t < end → is_gain v e.time e.weight t ≡ gains e.time e.weight due (slice_index values) t
    gain t k a = ap (λ x. is_better e.weight x (get_or v t 0)) (begin t k a) ∙ ap (is_better e.weight (get_or values (t - e.time) 0)) (h.kept t a)
        ∙ sym (gains_inside e.time e.weight due (slice_index values) t (omega (arith, k, l)) (h.early t a))

    now : (t : ℕ) → first ≤ t → t < end → value_at v e.time e.weight t (is_gain v e.time e.weight t) ≡ value_with e.time e.weight due (slice_index values) t
    now t k a =
        ap (λ b. cond b (get_or v (t - e.time) 0 + e.weight) (get_or v t 0)) (gain t k a)
        ∙ ap (λ x. cond (gains e.time e.weight due (slice_index values) t) (x + e.weight) (get_or v t 0)) (begin t k a)
        ∙ ap (cond (gains e.time e.weight due (slice_index values) t) (get_or values (t - e.time) 0 + e.weight)) (h.kept t a)
        ∙ sym (value_with-is e.time e.weight due (slice_index values) t)
