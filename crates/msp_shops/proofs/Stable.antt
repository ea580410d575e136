-- A stable sort keeps a relation between elements that tie, as their order by number.
use Rattle.std.proofs.Common.{◌≡◌, ℕ, ◌<◌, Bool, true, false, not, cond, List, [], ◌∷◌, filter, get_or, All, AllPairs, refl, sym, subst, arith, ◌∙◌}
use Rattle.std.specs.Prelude.{◌&&◌}
use Rattle.std.specs.Cmp.{IsStrictWeakOrder}
use Rattle.std.specs.List.{range_with_len}
use Rattle.std.specs.List.Sorted.{ties, IsStableBy}
use Rattle.std.proofs.lemmas.List.Elements.{All-contains, All-contains_itself}
use Rattle.std.proofs.lemmas.List.FromFn.{get_or-range_with_len, length-range_with_len}
use Rattle.std.proofs.lemmas.List.Kept.{AllPairs-cons, AllPairs-filter}
use Rattle.std.proofs.lemmas.Bool.{false≢true}
use Rattle.msp_class.proofs.Sums.{AllPairs-head, AllPairs-tail, Contains-filter}

-- what holds of all pairs that a filter keeps holds of all pairs that pass
kept_pairs : {X : Type 0} (R : X → X → Type 0) (p : X → Bool) (ys : List X) → AllPairs R (filter p ys) → AllPairs (λ a b. p a ≡ true → p b ≡ true → R a b) ys
kept_pairs R p [] h = λ i j d a b. absurd (omega (arith, b))
kept_pairs {X} R p (y ∷ ys) h = AllPairs-cons (λ a b. p a ≡ true → p b ≡ true → R a b) y ys (by (p y) refl h) (kept_pairs R p ys (rest (p y) h))
  where
    rest : (b : Bool) → AllPairs R (cond b (y ∷ filter p ys) (filter p ys)) → AllPairs R (filter p ys)
    rest true k = AllPairs-tail R y (filter p ys) k
    rest false k = k

    by : (b : Bool) → p y ≡ b → AllPairs R (cond b (y ∷ filter p ys) (filter p ys)) → All (λ z. p y ≡ true → p z ≡ true → R y z) ys
    by true e k n d l f g = All-contains (R y) (filter p ys) (get_or ys n d) (AllPairs-head R y (filter p ys) k) (Contains-filter p ys (get_or ys n d) (All-contains_itself ys n d l) g)
    by false e k n d l f g = absurd (false≢true (sym e ∙ f))

ties_itself : {X : Type 0} (lt : X → X → Bool) → IsStrictWeakOrder lt → (x : X) → ties lt x x ≡ true
ties_itself lt o x = by (lt x x) (o.one_way x x)
  where
    by : (b : Bool) → (b ≡ true → b ≡ false) → not b && not b ≡ true
    by true h = sym (h refl)
    by false h = refl

pub stable_pairs : {X : Type 0} (R : X → X → Type 0) (lt : X → X → Bool) → IsStrictWeakOrder lt → (xs ys : List X)
    → AllPairs R xs → IsStableBy lt xs ys → AllPairs (λ a b. ties lt a b ≡ true → R a b) ys
stable_pairs R lt o xs ys h stable i j d a b tie =
    let x = get_or ys i d in
    kept_pairs R (ties lt x) ys (subst (AllPairs R) (sym (stable x)) (AllPairs-filter R (ties lt x) xs h)) i j d a b (ties_itself lt o x) tie

pub range_rises : (n : ℕ) → AllPairs (λ a b. a < b) (range_with_len 0 n)
range_rises n i j d a b =
    let inside : j < n = omega (arith, b, length-range_with_len 0 n) in
    omega (arith, a, get_or-range_with_len 0 n i d (omega (arith, a, inside)), get_or-range_with_len 0 n j d inside)
