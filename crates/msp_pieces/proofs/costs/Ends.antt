-- The ends of jobs over more and more pieces.
use Rattle.std.proofs.Common.{◌≡◌, ℕ, ◌+◌, ◌<◌, Bool, true, false, cond, List, [], ◌∷◌, ◌++◌, length, get_or, take, set, map, filter, fold, ℤ, pos, refl, sym, ap, ◌∙◌, subst, arith, inl, inr}
use Rattle.std.specs.Prelude.{◌==◌, slice_index_or}
use Rattle.std.specs.Int.{int_max}
use Rattle.std.proofs.lemmas.List.{map-append, take_more, get_or-set_other}
use Rattle.std.proofs.lemmas.List.Sums.{fold-append}
use Rattle.std.proofs.lemmas.List.Elements.{filter-append}
use Rattle.std.proofs.lemmas.Bool.{cases_Bool, eqb-true, eqb-false}
use Rattle.std.proofs.lemmas.Grind.{get_or-set_at}
use Rattle.std.proofs.lemmas.Int.{ints, clamps}
use Rattle.msp_class.specs.declared.sizes.TheConstants.{MOST_JOBS}
use Rattle.msp_pieces.specs.declared.Piece.{Piece}
use Rattle.msp_pieces.specs.Cost.{last_end}
use Rattle.msp_pieces.specs.Within.{IsMoment}

last_end-one : (xs : List Piece) (p : Piece) (j : ℕ) → last_end (xs ++ p ∷ []) j ≡ cond (p.job == j) (int_max (last_end xs j) p.to) (last_end xs j)
last_end-one xs p j =
    ap (λ l. fold int_max (pos 0) (map (λ q. q.to) l)) (filter-append (λ q. q.job == j) xs (p ∷ []))
    ∙ ap (fold int_max (pos 0)) (map-append (λ q. q.to) (filter (λ q. q.job == j) xs) (filter (λ q. q.job == j) (p ∷ [])))
    ∙ fold-append int_max (pos 0) (map (λ q. q.to) (filter (λ q. q.job == j) xs)) (map (λ q. q.to) (filter (λ q. q.job == j) (p ∷ [])))
    ∙ elim (p.job == j) as
    (λ b. fold int_max (last_end xs j) (map (λ q. q.to) (cond b (p ∷ []) [])) ≡ cond b (int_max (last_end xs j) p.to) (last_end xs j))
    [ true ↦ refl | false ↦ refl ]

pub last_end-more : (xs : List Piece) (k j : ℕ) (d : Piece) → k < length xs
    → last_end (take (k + 1) xs) j ≡ cond ((get_or xs k d).job == j) (int_max (last_end (take k xs) j) (get_or xs k d).to) (last_end (take k xs) j)
last_end-more xs k j d h = ap (λ l. last_end l j) (take_more xs k d h) ∙ last_end-one (take k xs) (get_or xs k d) j

-- the numbers are the ends of the jobs over the pieces
pub record EndsOver (numbers : List ℤ) (pieces : List Piece) : Type 0 where
  pub ends : (j : ℕ) → j < MOST_JOBS → slice_index_or numbers j (pos 0) ≡ last_end pieces j
  pub moments : (j : ℕ) → j < MOST_JOBS → IsMoment (last_end pieces j)

pub EndsOver-none : (ends : List ℤ) → ((j : ℕ) → j < MOST_JOBS → slice_index_or ends j (pos 0) ≡ pos 0) → EndsOver ends []
EndsOver-none ends e = record { ends = e; moments = λ j h. (omega (arith, ints), omega (arith, ints)) }

pub EndsOver-next : (ends new : List ℤ) (xs : List Piece) (k : ℕ) (p d : Piece) → k < length xs → p ≡ get_or xs k d → p.job < length ends → p.job < MOST_JOBS → IsMoment p.to →
    new ≡ set ends p.job (int_max (slice_index_or ends p.job (pos 0)) p.to) → EndsOver ends (take k xs) → EndsOver new (take (k + 1) xs)
EndsOver-next ends new xs k p d h is inside small moment e so_far = record { ends = ends_next; moments = moments_next }
  where
    is_more : (j : ℕ) → last_end (take (k + 1) xs) j ≡ cond (p.job == j) (int_max (last_end (take k xs) j) p.to) (last_end (take k xs) j)
    is_more j = subst (λ q. last_end (take (k + 1) xs) j ≡ cond (q.job == j) (int_max (last_end (take k xs) j) q.to) (last_end (take k xs) j)) (sym is) (last_end-more xs k j d h)

    value : ℤ
    value = int_max (slice_index_or ends p.job (pos 0)) p.to

    ends_next : (j : ℕ) → j < MOST_JOBS → slice_index_or new j (pos 0) ≡ last_end (take (k + 1) xs) j
    ends_next j t = elim (cases_Bool (p.job == j)) [
      | inl hit ↦ ap (λ l. slice_index_or l j (pos 0)) e ∙ get_or-set_at ends p.job j value (pos 0) (sym (eqb-true _ _ hit)) inside
          ∙ ap (λ x. int_max x p.to) (so_far.ends p.job small ∙ ap (last_end (take k xs)) (eqb-true _ _ hit))
          ∙ sym (is_more j ∙ ap (λ b. cond b (int_max (last_end (take k xs) j) p.to) (last_end (take k xs) j)) hit)
      | inr miss ↦ ap (λ l. slice_index_or l j (pos 0)) e ∙ get_or-set_other ends p.job j value (pos 0) (λ q. eqb-false _ _ miss (sym q))
          ∙ so_far.ends j t ∙ sym (is_more j ∙ ap (λ b. cond b (int_max (last_end (take k xs) j) p.to) (last_end (take k xs) j)) miss)
    ]

    chosen : (b : Bool) (x : ℤ) → IsMoment x → IsMoment (cond b (int_max x p.to) x)
    chosen true x (a, b) = let (c, d) = moment in (omega (arith, ints, clamps, a, c), omega (arith, ints, clamps, b, d))
    chosen false x m = m

    moments_next : (j : ℕ) → j < MOST_JOBS → IsMoment (last_end (take (k + 1) xs) j)
    moments_next j t = subst IsMoment (sym (is_more j)) (chosen (p.job == j) _ (so_far.moments j t))
