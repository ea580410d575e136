-- The greatest sum of a line, line after line.
use Rattle.std.proofs.Common.{◌≡◌, ℕ, ◌+◌, ◌<◌, ◌≤◌, ◌⊎◌, inl, inr, List, sym, ◌∙◌, arith}
use Rattle.msp_timetable.specs.Split.{greatest_sum}
use Rattle.msp_timetable.specs.Square.{row_total, column_total, HasSmallLines}

pub record IsGreatestBelow (n : ℕ) (given : List ℕ) (k g : ℕ) : Type 0 where
  pub rows : (r : ℕ) → r < k → row_total n given r ≤ g
  pub columns : (c : ℕ) → c < k → column_total n given c ≤ g
  pub line : (g ≡ 0) ⊎ ((l : ℕ) × (l < k) × ((row_total n given l ≡ g) ⊎ (column_total n given l ≡ g)))
  pub low : g ≤ greatest_sum

pub IsGreatestBelow-next : (n : ℕ) (given : List ℕ) (k g h : ℕ) → HasSmallLines n given → k < n → IsGreatestBelow n given k g → g ≤ h → row_total n given k ≤ h → column_total n given k ≤ h
    → (h ≡ g) ⊎ ((h ≡ row_total n given k) ⊎ (h ≡ column_total n given k)) → IsGreatestBelow n given (k + 1) h
IsGreatestBelow-next n given k g h small lk b lg lr lc which = record {
  rows = λ r l. grind (arith, lr, lg, b.rows r);
  columns = λ c l. grind (arith, lc, lg, b.columns c);
  line = elim which [
    | inl e ↦ elim b.line [
      | inl z ↦ inl (e ∙ z)
      | inr w ↦ inr (
        w.0,
        omega (arith, w.1),
        elim w.2 [
          | inl q ↦ inl (q ∙ sym e)
          | inr q ↦ inr (q ∙ sym e)
        ],
      )
    ]
    | inr e ↦ inr (
      k,
      omega arith,
      elim e [
        | inl q ↦ inl (sym q)
        | inr q ↦ inr (sym q)
      ],
    )
  ];
  low = grind (arith, which, b.low, small.rows k lk, small.columns k lk);
}
