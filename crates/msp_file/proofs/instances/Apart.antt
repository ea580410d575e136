-- Lists in which nothing stands twice.
use Rattle.std.proofs.Common.{◌≢◌, ◌<◌, List, [], ◌∷◌, ◌++◌, length, AllPairs, Contains, sym, ◌∙◌, refl, arith, length-append}
use Rattle.std.proofs.lemmas.List.{get_or_append_left, get_or_at, get_or_default}
use Rattle.std.proofs.lemmas.List.Quantifiers.{all_pairs_push}

-- one more at the end that did not stand there
pub apart_push : {X : Type 0} → (xs : List X) (y : X) → AllPairs (λ a b. a ≢ b) xs → ¬ Contains xs y → AllPairs (λ a b. a ≢ b) (xs ++ y ∷ [])
apart_push xs y h fresh = all_pairs_push (λ a b. a ≢ b) xs y h (λ k d below same. fresh (k, below, get_or_default xs k y d below ∙ same))

-- what stands somewhere did not stand before
pub apart_before : {X : Type 0} → (xs : List X) (y : X) (ys : List X) → AllPairs (λ a b. a ≢ b) (xs ++ y ∷ ys) → ¬ Contains xs y
apart_before xs y ys h m =
    let within : length xs < length (xs ++ y ∷ ys) = omega (arith, length-append xs (y ∷ ys)) in
    h m.0 (length xs) y m.1 within (get_or_append_left xs (y ∷ ys) y m.0 m.1 ∙ m.2 ∙ sym (get_or_at xs y ys y (length xs) refl))
