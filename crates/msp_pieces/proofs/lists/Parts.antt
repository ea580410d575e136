-- What holds of all elements of a list, or of all pairs, holds of its parts.
use Rattle.std.proofs.Common.{List, [], ◌∷◌, ◌++◌, All, AllPairs, arith}
use Rattle.std.proofs.lemmas.List.Kept.{AllPairs-cons}
use Rattle.std.proofs.lemmas.List.Elements.{All-nil, All-cons, All-head, All-tail}
use Rattle.msp_class.proofs.Sums.{AllPairs-head, AllPairs-tail}
pub use Rattle.msp_instance.proofs.MultipleLemmas.{All-append_left as All-front}

pub All-back : {X : Type 0} (P : X → Type 0) (xs ys : List X) → All P (xs ++ ys) → All P ys
All-back P [] ys h = h
All-back P (x ∷ xs) ys h = All-back P xs ys (All-tail P x (xs ++ ys) h)

pub AllPairs-front : {X : Type 0} (R : X → X → Type 0) (xs ys : List X) → AllPairs R (xs ++ ys) → AllPairs R xs
AllPairs-front R [] ys h = λ i j d a b. absurd (omega (arith, b))
AllPairs-front R (x ∷ xs) ys h = AllPairs-cons R x xs (All-front (R x) xs ys (AllPairs-head R x (xs ++ ys) h)) (AllPairs-front R xs ys (AllPairs-tail R x (xs ++ ys) h))

pub AllPairs-back : {X : Type 0} (R : X → X → Type 0) (xs ys : List X) → AllPairs R (xs ++ ys) → AllPairs R ys
AllPairs-back R [] ys h = h
AllPairs-back R (x ∷ xs) ys h = AllPairs-back R xs ys (AllPairs-tail R x (xs ++ ys) h)

-- each is related to the last one
pub AllPairs-last : {X : Type 0} (R : X → X → Type 0) (xs : List X) (x : X) → AllPairs R (xs ++ x ∷ []) → All (λ y. R y x) xs
AllPairs-last R [] x h = All-nil (λ y. R y x)
AllPairs-last R (y ∷ ys) x h = All-cons (λ z. R z x)
    y ys (All-head (R y) x [] (All-back (R y) ys (x ∷ []) (AllPairs-head R y (ys ++ x ∷ []) h))) (AllPairs-last R ys x (AllPairs-tail R y (ys ++ x ∷ []) h))
