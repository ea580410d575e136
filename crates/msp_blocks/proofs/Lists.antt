-- Lists with and without one element.
use Rattle.std.proofs.Common.{◌≢◌, List, [], ◌∷◌, ◌++◌, All, AllPairs, Contains, refl, sym}
use Rattle.std.proofs.lemmas.List.Elements.{All-append, All-head, All-tail, All-contains, All-contains_itself}
use Rattle.std.proofs.lemmas.List.Sorted.{Contains-permutation, IsPermutation-middle}
use Rattle.std.proofs.lemmas.List.Kept.{AllPairs-cons}
use Rattle.msp_class.proofs.Sums.{AllPairs-head, AllPairs-tail, Contains-tail}
use Rattle.msp_pieces.proofs.lists.Parts.{All-front, All-back}
use Rattle.msp_pieces.proofs.lists.Permuted.{AllPairs-permutation}

module _ {X : Type 0} where
  pub All-without : (P : X → Type 0) (xs : List X) (x : X) (ys : List X) → All P (xs ++ x ∷ ys) → All P (xs ++ ys)
  All-without P xs x ys h = All-append P xs ys (All-front P xs (x ∷ ys) h) (All-tail P x ys (All-back P xs (x ∷ ys) h))

  pub All-at : (P : X → Type 0) (xs : List X) (x : X) (ys : List X) → All P (xs ++ x ∷ ys) → P x
  All-at P xs x ys h = All-head P x ys (All-back P xs (x ∷ ys) h)

  pub AllPairs-without : (R : X → X → Type 0) (xs : List X) (x : X) (ys : List X) → AllPairs R (xs ++ x ∷ ys) → AllPairs R (xs ++ ys)
  AllPairs-without R [] x ys h = AllPairs-tail R x ys h
  AllPairs-without R (z ∷ xs) x ys h = AllPairs-cons R z (xs ++ ys) (All-without (R z) xs x ys (AllPairs-head R z (xs ++ x ∷ ys) h)) (AllPairs-without R xs x ys (AllPairs-tail R z (xs ++ x ∷ ys) h))

  pub Contains-with : (xs : List X) (x : X) (ys : List X) (y : X) → Contains (xs ++ ys) y → Contains (xs ++ x ∷ ys) y
  Contains-with xs x ys y c = All-contains (Contains (xs ++ x ∷ ys)) (xs ++ ys) y (All-without (Contains (xs ++ x ∷ ys)) xs x ys (All-contains_itself (xs ++ x ∷ ys))) c

  pub Contains-at : (xs : List X) (x : X) (ys : List X) → Contains (xs ++ x ∷ ys) x
  Contains-at xs x ys = All-at (Contains (xs ++ x ∷ ys)) xs x ys (All-contains_itself (xs ++ x ∷ ys))

  pub Contains-without : (xs : List X) (x : X) (ys : List X) (y : X) → y ≢ x → Contains (xs ++ x ∷ ys) y → Contains (xs ++ ys) y
  Contains-without xs x ys y other c =
      Contains-tail x (xs ++ ys) y (Contains-permutation (xs ++ x ∷ ys) (x ∷ (xs ++ ys)) y (IsPermutation-middle xs x ys) c) (λ e. other (sym e))

  -- each of several that differ stands once
  pub Contains-once : (xs : List X) (x : X) (ys : List X) → AllPairs (λ y z. y ≢ z) (xs ++ x ∷ ys) → ¬ Contains (xs ++ ys) x
  Contains-once xs x ys u c = All-contains (λ y. x ≢ y) (xs ++ ys) x (AllPairs-head (λ y z. y ≢ z) x (xs ++ ys)
      (AllPairs-permutation (λ y z. y ≢ z) (λ y z differ e. differ (sym e)) (xs ++ x ∷ ys) (x ∷ (xs ++ ys)) (IsPermutation-middle xs x ys) u)) c refl
