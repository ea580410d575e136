-- A table of two rows and two columns, for tests, is a matrix that can be split.
use Rattle.std.proofs.Common.{◌≡◌, ℕ, zero, suc, ◌<◌, ◌*◌, ◌+◌, inl, inr, List, [], ◌∷◌, ℤ, pos, ◌≤ℤ◌, refl, sym, ap, ◌∙◌, subst, arith}
use Rattle.std.specs.Prelude.{◌⊎◌}
use Rattle.std.proofs.lemmas.Int.{ints}
use Rattle.msp_timetable.specs.declared.matrix.Matrix.{Matrix}
use Rattle.msp_timetable.specs.Split.{cell, row_sum, column_sum, greatest_sum, IsMatrix}

module _ (a b c d : ℕ) (la : a < 256) (lb : b < 256) (lc : c < 256) (ld : d < 256) where
  abbrev table : Matrix
  table = record { rows = 2; columns = 2; cells = pos a ∷ pos b ∷ pos c ∷ pos d ∷ [] }

  two : (P : ℕ → Type 0) → P 0 → P 1 → (k : ℕ) → k < 2 → P k
  two P p q k l = elim (which k l) as (λ _. P k) [ inl e ↦ subst P (sym e) p | inr e ↦ subst P (sym e) q ]
    where
      which : (k : ℕ) → k < 2 → (k ≡ 0) ⊎ (k ≡ 1)
      which zero l = inl refl
      which (suc zero) l = inr refl
      which (suc (suc k)) l = absurd (omega (arith, l))

  pub small_table : IsMatrix table
  small_table = record {
    whole = refl;
    cells = λ r s l m. two (λ r. pos 0 ≤ℤ cell table r s) (two (λ s. pos 0 ≤ℤ cell table 0 s) (omega (arith, ints)) (omega (arith, ints)) s m)
        (two (λ s. pos 0 ≤ℤ cell table 1 s) (omega (arith, ints)) (omega (arith, ints)) s m) r l;
    row_sums = two (λ r. row_sum table r ≤ℤ pos greatest_sum) (omega (arith, ints, la, lb)) (omega (arith, ints, lc, ld));
    column_sums = two (λ s. column_sum table s ≤ℤ pos greatest_sum) (omega (arith, ints, la, lc)) (omega (arith, ints, lb, ld));
  }

pub small_matrix : (a b c d : ℕ) → a < 256 → b < 256 → c < 256 → d < 256 → (w x y z : ℤ)
    → w ≡ pos a → x ≡ pos b → y ≡ pos c → z ≡ pos d → (cells : List ℤ) → cells ≡ w ∷ x ∷ y ∷ z ∷ [] → IsMatrix (record { rows = 2; columns = 2; cells = cells })
small_matrix a b c d la lb lc ld w x y z ew ex ey ez cells is =
    subst (λ xs. IsMatrix (record { rows = 2; columns = 2; cells = xs }))
    (sym (is ∙ ap (λ v. v ∷ x ∷ y ∷ z ∷ []) ew ∙ ap (λ v. pos a ∷ v ∷ y ∷ z ∷ []) ex ∙ ap (λ v. pos a ∷ pos b ∷ v ∷ z ∷ []) ey ∙ ap (λ v. pos a ∷ pos b ∷ pos c ∷ v ∷ []) ez))
    (small_table a b c d la lb lc ld)
