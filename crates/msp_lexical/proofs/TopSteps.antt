-- The least labels of segments, one slot after another from the last.
use Rattle.std.proofs.Common.{◌≡◌, ◌≢◌, ℕ, ◌+◌, ◌<◌, ◌≤◌, ◌⊎◌, inl, inr, List, length, set, slice_index, refl, sym, subst, ◌∙◌, arith}
use Rattle.std.proofs.lemmas.Bool.{cases_lt, cases_eq}
use Rattle.std.proofs.lemmas.List.{length-set, get_or-set_same, get_or-set_other}
use Rattle.msp_class.specs.declared.sizes.TheConstants.{MOST_JOBS}
use Rattle.msp_lexical.specs.Slots.{IsEnd, IsInner, AreTops, IsTopOf}

-- the slots from one on have their least labels, and the number is that of the slot, or MOST_JOBS after the last one
pub record IsTopping (n slots : ℕ) (label first second : ℕ → ℕ) (slot next : ℕ) (tops : List ℕ) : Type 0 where
  pub inside : slot ≤ slots
  pub whole : length tops ≡ MOST_JOBS
  pub here : slot < slots → next ≡ slice_index tops slot
  pub after : slot ≡ slots → next ≡ MOST_JOBS
  pub tops_are : (x : ℕ) → slot ≤ x → x < slots → IsEnd n slots label first second (slice_index tops) x ⊎ IsInner n slots label second (slice_index tops) x

module _ (n slots : ℕ) (label first second : ℕ → ℕ) (small : (j : ℕ) → j < n → label j < MOST_JOBS) (few : slots ≤ MOST_JOBS) where
  pub IsTopping-start : (tops : List ℕ) → length tops ≡ MOST_JOBS → IsTopping n slots label first second slots MOST_JOBS tops
  IsTopping-start tops whole = record { inside = omega arith; whole = whole; here = λ l. absurd (omega (arith, l)); after = λ _. refl; tops_are = λ x l m. absurd (omega (arith, l, m)) }

  pub IsTopping-next : (slot next top : ℕ) (tops : List ℕ) → slot + 1 ≤ slots → IsTopOf n label (first slot) (second slot) next top
      → IsTopping n slots label first second (slot + 1) next tops → IsTopping n slots label first second slot top (set tops slot top)
  IsTopping-next slot next top tops l step h = record {
    inside = omega (arith, l);
    whole = length-set tops slot top ∙ h.whole;
    here = λ _. sym given;
    after = λ e. absurd (omega (arith, e, l));
    tops_are = λ x from to. elim (cases_eq x slot) [
      | inl same ↦ subst Found (sym same) newest
      | inr differ ↦ older x (kept x differ) (kept (x + 1) (λ e. absurd (omega (arith, e, from)))) (h.tops_are x (omega (arith, from, differ)) to)
    ];
  }
    where
      given : slice_index (set tops slot top) slot ≡ top
      given = get_or-set_same tops slot top 0 (omega (arith, l, few, h.whole))

      kept : (x : ℕ) → x ≢ slot → slice_index (set tops slot top) x ≡ slice_index tops x
      kept x differ = get_or-set_other tops slot x top 0 differ

      Found : ℕ → Type 0
      Found x = IsEnd n slots label first second (slice_index (set tops slot top)) x ⊎ IsInner n slots label second (slice_index (set tops slot top)) x

      older : (x : ℕ) → slice_index (set tops slot top) x ≡ slice_index tops x → slice_index (set tops slot top) (x + 1) ≡ slice_index tops (x + 1)
          → IsEnd n slots label first second (slice_index tops) x ⊎ IsInner n slots label second (slice_index tops) x → Found x
      older x e f (inl at_end) = inl (e ∙ at_end.0, elim at_end.1 [ inl last ↦ inl last | inr rest ↦ inr (elim rest [ inl none ↦ inl none | inr less ↦ inr (omega (arith, less, f)) ]) ])
      older x e f (inr goes) = inr (e ∙ goes.0 ∙ sym f, goes.1, goes.2, omega (arith, goes.3, f))

      after_top : slot + 1 < slots → next ≡ slice_index (set tops slot top) (slot + 1)
      after_top less = h.here less ∙ sym (kept (slot + 1) (λ e. absurd (omega (arith, e))))

      newest : Found slot
      newest = by step (cases_lt (slot + 1) slots)
        where
          by : IsTopOf n label (first slot) (second slot) next top → (slot + 1 < slots) ⊎ (slots ≤ slot + 1) → Found slot
          by (inl e) (inl less) = inl (given ∙ e.0, inr (elim e.1 [ inl none ↦ inl none | inr low ↦ inr (omega (arith, low, after_top less)) ]))
          by (inl e) (inr last) = inl (given ∙ e.0, inl (omega (arith, last, l)))
          by (inr e) (inl less) = inr (given ∙ e.0 ∙ after_top less, less, e.1, omega (arith, e.2, after_top less))
          by (inr e) (inr last) = absurd (omega (arith, e.2, small (second slot) e.1, h.after (omega (arith, last, l))))

  pub AreTops-end : (slot next : ℕ) (tops : List ℕ) → slot ≡ 0 → IsTopping n slots label first second slot next tops → AreTops n slots label first second (slice_index tops)
  AreTops-end slot next tops none h x l = h.tops_are x (omega (arith, none)) l
