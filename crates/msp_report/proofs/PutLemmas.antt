-- Loops that put lines: one line more.
use Rattle.std.proofs.Common.{◌≡◌, ℕ, ◌+◌, ◌<◌, ◌≤◌, List, [], ◌∷◌, ◌++◌, length, get_or, drop, Some, None, refl, sym, ap, ◌∙◌, append_assoc}
use Rattle.std.specs.List.{flat_map}
use Rattle.std.proofs.lemmas.List.{append-nil, drop_all, drop_more}
use Rattle.msp_class.specs.declared.class.Class.{Class}
use Rattle.msp_table.specs.Rows.{goes_of}
use Rattle.msp_report.specs.ChainText.{row_line, row_lines}

-- a text put before those behind it
joined : (whole out after line rest : List ℕ) → after ≡ out ++ line → out ++ (line ++ rest) ≡ whole → after ++ rest ≡ whole
joined whole out after line rest put so_far = ap (λ l. l ++ rest) put ∙ append_assoc out line rest ∙ so_far

pub lines_more : {A : Type 0} (line : A → List ℕ) (whole out after : List ℕ) (xs : List A) (k : ℕ) (x d : A) → k < length xs → get_or xs k d ≡ x
    → after ≡ out ++ line x → out ++ flat_map line (drop k xs) ≡ whole → after ++ flat_map line (drop (k + 1) xs) ≡ whole
lines_more line whole out after xs k x d below at put so_far =
    joined whole out after (line x) (flat_map line (drop (k + 1) xs)) put
    (ap (λ l. out ++ flat_map line l) (sym (drop_more xs k d below ∙ ap (λ y. y ∷ drop (k + 1) xs) at)) ∙ so_far)

-- of the rows of a chain the line of the next one
pub rows_more : (whole out after : List ℕ) (here next : Class) (rows : List ℕ) (k row d : ℕ) → k < length rows → get_or rows k d ≡ row
    → goes_of row here ≡ Some next → after ≡ out ++ row_line row next → out ++ row_lines here (drop k rows) ≡ whole
    → after ++ row_lines next (drop (k + 1) rows) ≡ whole
rows_more whole out after here next rows k row d below at goes put so_far =
    joined whole out after (row_line row next) (row_lines next (drop (k + 1) rows)) put
    (ap (λ l. out ++ l) (sym (first goes)) ∙ ap (λ l. out ++ row_lines here l) (sym (drop_more rows k d below ∙ ap (λ y. y ∷ drop (k + 1) rows) at)) ∙ so_far)
  where
    first : goes_of row here ≡ Some next → row_lines here (row ∷ drop (k + 1) rows) ≡ row_line row next ++ row_lines next (drop (k + 1) rows)
    first e = rw e refl

-- where nothing is left to put
pub all_put : {A : Type 0} (lines : List A → List ℕ) (whole out : List ℕ) (xs : List A) (k : ℕ) → lines [] ≡ [] → length xs ≤ k → out ++ lines (drop k xs) ≡ whole → out ≡ whole
all_put lines whole out xs k none past so_far = sym (append-nil out) ∙ ap (λ l. out ++ l) (sym (ap lines (drop_all k xs past) ∙ none)) ∙ so_far

pub rows_stop : (whole out : List ℕ) (here : Class) (rows : List ℕ) (k row d : ℕ) → k < length rows → get_or rows k d ≡ row → goes_of row here ≡ None
    → out ++ row_lines here (drop k rows) ≡ whole → out ≡ whole
rows_stop whole out here rows k row d below at stops so_far = sym (append-nil out) ∙ ap (λ l. out ++ l) (sym none) ∙ so_far
  where
    none : row_lines here (drop k rows) ≡ []
    none = rw (drop_more rows k d below, at, stops) refl
