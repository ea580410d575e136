-- The prices of the columns of the rows of the tree fall, row after row.
use Rattle.std.proofs.Common.{◌≡◌, ◌≢◌, ℕ, ◌+◌, ◌-◌, ◌<◌, ◌≤◌, inl, inr, refl, List, length, set, All, AllPairs, sym, ap, subst, ◌∙◌, arith}
use Rattle.std.proofs.lemmas.List.{get_or-set_same, get_or-set_other, length-set}
use Rattle.msp_assign.specs.Passing.{at}
use Rattle.msp_class.proofs.Cases.{same_or_not}
use Rattle.msp_assign.proofs.Lists.{same_place}
use Rattle.msp_assign.specs.Search.{IsLowered}

module _ (d : ℕ) (distance column tree fall : List ℕ) where
  -- the columns of the rows before place n of the tree have fallen
  pub record IsLowering (next : List ℕ) (n : ℕ) : Type 0 where
    pub size : length next ≡ length fall
    pub reached : (k : ℕ) → 1 ≤ k → k < n → at next (at column (at tree k)) ≡ at fall (at column (at tree k)) + (d - at distance (at column (at tree k)))
    pub others : (c : ℕ) → ((k : ℕ) → 1 ≤ k → k < n → at column (at tree k) ≢ c) → at next c ≡ at fall c

  pub IsLowering-start : IsLowering fall 1
  IsLowering-start = record { size = refl; reached = λ k a b. absurd (omega (arith, a, b)); others = λ c h. refl }

  module _ (rows : (k : ℕ) → 1 ≤ k → k < length tree → at tree k < length column) (once : (j k : ℕ) → j < k → k < length tree → at tree j ≢ at tree k) (apart : AllPairs (λ x y. x ≢ y) column)
      (inside : All (λ c. c < length fall) column) (next : List ℕ) (n : ℕ) (h : IsLowering next n) (some : 1 ≤ n) (l : n < length tree) where
    -- the column of this row has not fallen yet
    fresh : (k : ℕ) → 1 ≤ k → k < n → at column (at tree k) ≢ at column (at tree n)
    fresh k a b e = once k n b l (same_place column apart (at tree k) (at tree n) (rows k a (omega (arith, b, l))) (rows n some l) e)

    pub as_before : at next (at column (at tree n)) ≡ at fall (at column (at tree n))
    as_before = h.others (at column (at tree n)) fresh

    pub IsLowering-next : (c x : ℕ) → c ≡ at column (at tree n) → x ≡ at next c + (d - at distance c) → IsLowering (set next c x) (n + 1)
    IsLowering-next c x e is = record {
      size = length-set next c x ∙ h.size;
      reached = λ k a b. elim (same_or_not k n) [
        | inl q ↦ subst (λ y. at (set next c x) y ≡ at fall y + (d - at distance y)) (e ∙ sym (ap (λ y. at column (at tree y)) q))
            (get_or-set_same next c x 0 (omega (arith, h.size, e, inside (at tree n) 0 (rows n some l))) ∙ is ∙ ap (λ y. y + (d - at distance c)) (ap (at next) e ∙ as_before ∙ ap (at fall) (sym e)))
        | inr q ↦ get_or-set_other next c (at column (at tree k)) x 0 (λ y. fresh k a (omega arith) (y ∙ e)) ∙ h.reached k a (omega arith)
      ];
      others = λ b q. get_or-set_other next c b x 0 (λ y. q n some (omega arith) (sym e ∙ sym y)) ∙ h.others b (λ k a m. q k a (omega arith));
    }

  pub IsLowered-end : (next : List ℕ) (n : ℕ) → n ≡ length tree → IsLowering next n → IsLowered d distance column tree fall next
  IsLowered-end next n e h = record { size = h.size; reached = λ k a b. h.reached k a (omega (arith, e, b)); others = λ c q. h.others c (λ k a b. q k a (omega (arith, e, b))) }
