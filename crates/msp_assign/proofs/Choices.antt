-- Columns that a function gives to rows, as an assignment, and the columns of an assignment as a function.
use Rattle.std.proofs.Common.{◌≡◌, ℕ, ◌<◌, inl, inr, ℤ, ◌≤ℤ◌, List, length, get_or, map, sym, ap, subst, ◌∙◌, arith}
use Rattle.std.specs.List.{range_with_len}
use Rattle.std.proofs.lemmas.List.FromFn.{length-map-range_with_len, get_or-map-range_with_len}
use Rattle.msp_class.specs.Sums.{int_total_below}
use Rattle.msp_class.proofs.Sums.{int_total_below-same}
use Rattle.msp_assign.specs.Prices.{IsAssigned, IsLeast, column_of, cost_of}
use Rattle.std.proofs.lemmas.Bool.{cases_order}

module _ (rows columns : ℕ) (column : List ℕ) (h : IsAssigned rows columns column) where
  pub column-inside : (r : ℕ) → r < rows → column_of column r < columns
  column-inside r l = h.inside r 0 (omega (arith, l, h.all))

  pub column-once : (q r : ℕ) → q < rows → r < rows → column_of column q ≡ column_of column r → q ≡ r
  column-once q r lq lr e = elim (cases_order q r) [
    | inl same ↦ same
    | inr (inl less) ↦ absurd (h.apart q r 0 less (omega (arith, lr, h.all)) e)
    | inr (inr more) ↦ absurd (h.apart r q 0 more (omega (arith, lq, h.all)) (sym e))
  ]

module _ (rows columns : ℕ) (choice : ℕ → ℕ) (inside : (r : ℕ) → r < rows → choice r < columns) (once : (q r : ℕ) → q < rows → r < rows → choice q ≡ choice r → q ≡ r) where
  abbrev chosen : List ℕ
  chosen = map choice (range_with_len 0 rows)

  many : length chosen ≡ rows
  many = length-map-range_with_len choice 0 rows

  chosen_at : (r d : ℕ) → r < rows → get_or chosen r d ≡ choice r
  chosen_at r d l = get_or-map-range_with_len choice 0 rows r r d l (omega arith)

  pub IsAssigned-choice : IsAssigned rows columns chosen
  IsAssigned-choice = record {
    all = many;
    inside = λ r d l. let w : r < rows = omega (arith, l, many) in omega (arith, chosen_at r d w, inside r w);
    apart = λ q r d less l e.
        let w : r < rows = omega (arith, l, many) in
        let v : q < rows = omega (arith, w, less) in
        absurd (omega (arith, less, once q r v w (sym (chosen_at q d v) ∙ e ∙ chosen_at r d w)));
  }

  -- a least assignment costs no more than such a choice
  pub choice_no_less : (cost : ℕ → ℕ → ℤ) (price : ℕ → ℤ) (column : List ℕ)
      → IsLeast rows columns cost column → ((r : ℕ) → r < rows → cost r (choice r) ≡ price r) → cost_of rows cost column ≤ℤ int_total_below rows price
  choice_no_less cost price column least is =
      subst (λ z. cost_of rows cost column ≤ℤ z) (int_total_below-same rows (λ r. cost r (column_of chosen r)) price (λ r l. ap (cost r) (chosen_at r 0 l) ∙ is r l))
      (least chosen IsAssigned-choice)
