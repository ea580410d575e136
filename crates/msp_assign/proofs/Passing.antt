-- The search has grown a tree over which the columns can be passed on, once the new row has the free column.
use Rattle.std.proofs.Common.{◌≡◌, ℕ, zero, suc, ◌+◌, ◌<◌, ◌≤◌, List, [], ◌∷◌, ◌++◌, length, All, sym, ap, subst, ◌∙◌, arith}
use Rattle.std.proofs.Math.Seq.{get_or-append_seam}
use Rattle.std.proofs.lemmas.List.{get_or_append_left, length-append}
use Rattle.msp_assign.specs.Passing.{at, IsTree}
use Rattle.msp_assign.specs.Search.{IsGrown}

module _ (columns : ℕ) (column «from» tree : List ℕ) (t : IsGrown columns column «from» tree) (free : ℕ) where
  size : length (column ++ free ∷ []) ≡ length column + 1
  size = length-append column (free ∷ [])

  pub first_free : at (column ++ free ∷ []) (at tree 0) ≡ free
  first_free = ap (at (column ++ free ∷ [])) t.first ∙ get_or-append_seam column free [] 0

  -- a row before the new one has the column that it had
  pub row_before : (r : ℕ) → r < length column → at (column ++ free ∷ []) r ≡ at column r
  row_before r l = get_or_append_left column (free ∷ []) 0 r l

  pub kept_column : (k : ℕ) → 1 ≤ k → k < length tree → at (column ++ free ∷ []) (at tree k) ≡ at column (at tree k)
  kept_column k a b = row_before (at tree k) (t.rows k a b)

  pub IsTree-longer : All (λ c. c < columns) column → free < columns → IsTree (column ++ free ∷ []) «from» tree
  IsTree-longer inside l = record {
    some = t.some;
    rows = rows;
    columns = own;
    apart = t.apart;
    within = subst (λ x. at «from» x < length tree) (sym first_free) (t.within free l);
    before = λ k a b. subst (λ x. at «from» x < k) (sym (kept_column k a b)) (t.before k a b);
  }
    where
      rows : (k : ℕ) → k < length tree → at tree k < length (column ++ free ∷ [])
      rows zero b = omega (arith, t.first, size)
      rows (suc k) b = omega (arith, t.rows (suc k) (omega arith) b, size)

      own : (k : ℕ) → k < length tree → at (column ++ free ∷ []) (at tree k) < length «from»
      own zero b = omega (arith, first_free, l, t.size)
      own (suc k) b = omega (arith, kept_column (suc k) (omega arith) b, inside (at tree (suc k)) 0 (t.rows (suc k) (omega arith) b), t.size)
