-- The ends of the jobs over more and more pieces, and in order.
use Rattle.std.proofs.Common.{◌≡◌, ◌≢◌, ℕ, ◌+◌, ◌<◌, Bool, cond, inl, inr, List, [], ◌∷◌, length, get_or, take, set, map, All, AllPairs, IsPermutation, ℤ, pos, ◌≤ℤ◌}
use Rattle.std.proofs.Common.{refl, sym, ap, subst, subst₂, ◌∙◌, arith}
use Rattle.std.specs.Prelude.{◌==◌}
use Rattle.std.specs.Int.{int_max}
use Rattle.std.specs.List.{range_with_len}
use Rattle.std.specs.Cmp.{IsStrictWeakOrder}
use Rattle.std.specs.List.Sorted.{IsSortedBy}
use Rattle.std.proofs.lemmas.Bool.{cases_eq, eq-eqb, ne_eqb}
use Rattle.std.proofs.lemmas.List.{length-set, get_or-set_same, get_or-set_other}
use Rattle.std.proofs.lemmas.List.FromFn.{fill_by_all, length-map-range_with_len, get_or-map-range_with_len}
use Rattle.std.proofs.lemmas.List.Elements.{All-map}
use Rattle.std.proofs.lemmas.List.Sorted.{IsPermutation-map, All-permutation}
use Rattle.msp_pieces.specs.declared.Piece.{Piece}
use Rattle.msp_pieces.proofs.changes.Moves.{AllPairs-map}
use Rattle.msp_pieces.specs.Cost.{last_end}
use Rattle.msp_pieces.proofs.costs.Ends.{last_end-more}
use Rattle.msp_pieces.proofs.lists.DateOrder.{date_less, date_less-order, date_sorted}
use Rattle.msp_class.proofs.IntegerRing.{<ℤ_weak, ≤ℤ_of_same}
use Rattle.msp_turn.specs.declared.ends.End.{End}

abbrev pub no_piece : Piece
no_piece = record { job = 0; op = 0; machine = 0; from = pos 0; to = pos 0 }

-- the end of a job over the pieces
abbrev pub end_over : List Piece → ℕ → End
end_over ps j = record { moment = last_end ps j; job = j }

abbrev pub ends_over : ℕ → List Piece → List End
ends_over count ps = map (end_over ps) (range_with_len 0 count)

abbrev ended : ℕ → ℤ → End
ended j m = record { moment = m; job = j }

pub length-ends_over : (count : ℕ) (ends : List End) (ps : List Piece) → ends ≡ ends_over count ps → length ends ≡ count
length-ends_over count ends ps e = ap length e ∙ length-map-range_with_len (end_over ps) 0 count

-- one more piece
pub ends_over-next : (count : ℕ) (ends new : List End) (ps : List Piece) (k : ℕ) (p d : Piece) → k < length ps → p ≡ get_or ps k d → p.job < count
    → ((e : End) → new ≡ set ends p.job (record (get_or ends p.job e) { moment = int_max (get_or ends p.job e).moment p.to }))
    → ends ≡ ends_over count (take k ps) → new ≡ ends_over count (take (k + 1) ps)
ends_over-next count ends new ps k p d l is inside made so_far = fill_by_all (end_over (take (k + 1) ps)) new count none
    (long ∙ length-map-range_with_len (end_over (take k ps)) 0 count) (λ j b. elim (cases_eq j p.job) [ inl e ↦ here j e b | inr n ↦ there j n b ])
  where
    none : End
    none = record { moment = pos 0; job = 0 }

    long : length new ≡ length (ends_over count (take k ps))
    long = ap length (made none) ∙ length-set ends p.job (record (get_or ends p.job none) { moment = int_max (get_or ends p.job none).moment p.to }) ∙ ap length so_far

    was : (j : ℕ) → j < count → get_or ends j none ≡ end_over (take k ps) j
    was j b = ap (λ l. get_or l j none) so_far ∙ get_or-map-range_with_len (end_over (take k ps)) 0 count j j none b (omega arith)

    more : (j : ℕ) → last_end (take (k + 1) ps) j ≡ cond (p.job == j) (int_max (last_end (take k ps) j) p.to) (last_end (take k ps) j)
    more j = subst (λ q. last_end (take (k + 1) ps) j ≡ cond (q.job == j) (int_max (last_end (take k ps) j) q.to) (last_end (take k ps) j)) (sym is) (last_end-more ps k j d l)

    here : (j : ℕ) → j ≡ p.job → j < count → get_or new j none ≡ end_over (take (k + 1) ps) j
    here j e b =
        ap (λ n. get_or new n none) e
        ∙ ap (λ l. get_or l p.job none) (made none)
        ∙ get_or-set_same ends p.job (record (get_or ends p.job none) { moment = int_max (get_or ends p.job none).moment p.to })
        none (omega (arith, ap length so_far, length-map-range_with_len (end_over (take k ps)) 0 count))
        ∙ ap (λ (x : End). record x { moment = int_max x.moment p.to }) (was p.job inside)
        ∙ ap (ended p.job) (sym (more p.job ∙ ap (λ t. cond t (int_max (last_end (take k ps) p.job) p.to) (last_end (take k ps) p.job)) (eq-eqb p.job p.job refl)))
        ∙ ap (end_over (take (k + 1) ps)) (sym e)

    there : (j : ℕ) → j ≢ p.job → j < count → get_or new j none ≡ end_over (take (k + 1) ps) j
    there j n b =
        ap (λ l. get_or l j none) (made none)
        ∙ get_or-set_other ends p.job j (record (get_or ends p.job none) { moment = int_max (get_or ends p.job none).moment p.to }) none n
        ∙ was j b
        ∙ ap (ended j) (sym (more j ∙ ap (λ t. cond t (int_max (last_end (take k ps) j) p.to) (last_end (take k ps) j)) (ne_eqb p.job j (λ e. n (sym e)))))

-- ---- in order
abbrev pub end_less : End → End → Bool
end_less = date_less (λ (e : End). e.moment) (λ e. e.job)

pub end_less-order : IsStrictWeakOrder end_less
end_less-order = date_less-order (λ (e : End). e.moment) (λ e. e.job)

pub ends_sorted : (es : List End) → IsSortedBy end_less es → AllPairs (λ a b. a.moment ≤ℤ b.moment) es
ends_sorted es h i j d l k = elim (date_sorted (λ (e : End). e.moment) (λ e. e.job) es h i j d l k) [ inl less ↦ <ℤ_weak less | inr same ↦ ≤ℤ_of_same same.0 ]

-- ---- the numbers
pub numbers_are : (count : ℕ) (ps : List Piece) (ends sorted : List End) (order : List ℕ)
    → ends ≡ ends_over count ps → IsPermutation ends sorted → order ≡ map (λ e. e.job) sorted → IsPermutation (range_with_len 0 count) order
numbers_are count ps ends sorted order e moved made =
    subst₂ IsPermutation (ap (map (λ x. x.job)) e ∙ jobs (range_with_len 0 count)) (sym made) (IsPermutation-map (λ x. x.job) ends sorted moved)
  where
    jobs : (xs : List ℕ) → map (λ x. x.job) (map (end_over ps) xs) ≡ xs
    jobs [] = refl
    jobs (x ∷ xs) = ap (λ l. x ∷ l) (jobs xs)

pub numbers_rise : (count : ℕ) (ps : List Piece) (ends sorted : List End) (order : List ℕ)
    → ends ≡ ends_over count ps → IsPermutation ends sorted → AllPairs (λ a b. a.moment ≤ℤ b.moment) sorted → order ≡ map (λ e. e.job) sorted
    → AllPairs (λ a b. last_end ps a ≤ℤ last_end ps b) order
numbers_rise count ps ends sorted order e moved up made =
    subst (AllPairs Rises) (sym made) (AllPairs-map Rises (λ x. x.job) sorted (λ i j d l k. subst₂ (λ x y. x ≤ℤ y) (each i d (omega arith)) (each j d k) (up i j d l k)))
  where
    Rises : ℕ → ℕ → Type 0
    Rises a b = last_end ps a ≤ℤ last_end ps b

    Is : End → Type 0
    Is x = x.moment ≡ last_end ps x.job

    each : All Is sorted
    each = All-permutation Is ends sorted moved (subst (All Is) (sym e) (All-map Is (end_over ps) (range_with_len 0 count) (λ k d l. refl)))
