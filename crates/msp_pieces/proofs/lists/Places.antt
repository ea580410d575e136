-- Sums over a list by its places, and a filter of a filter.
use Rattle.std.proofs.Common.{◌≡◌, Bool, true, false, cond, List, [], ◌∷◌, filter, refl, ap}
use Rattle.std.specs.Prelude.{◌&&◌}
pub use Rattle.msp_class.proofs.Sums.{sum_by-places, total_below-within}

-- what passes one test after the other passes both
pub filter-both : {X : Type 0} (p q : X → Bool) (xs : List X) → filter q (filter p xs) ≡ filter (λ x. p x && q x) xs
filter-both p q [] = refl
filter-both p q (x ∷ xs) =
    let both = filter (λ y. p y && q y) xs in
    elim (p x) as (λ b. filter q (cond b (x ∷ filter p xs) (filter p xs)) ≡ cond (b && q x) (x ∷ both) both)
    [ true ↦ ap (λ l. cond (q x) (x ∷ l) l) (filter-both p q xs) | false ↦ filter-both p q xs ]
