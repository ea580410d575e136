-- The first part of a text, cut at a separator.
use Rattle.std.proofs.Common.{◌≡◌, ℕ, ◌+◌, ◌-◌, ◌<◌, ◌≤◌, ◌==◌, List, [], ◌∷◌, length, take, drop, refl, sym, Bool, true, false, not, Some, None, cond, arith, length-take, length-drop}
use Rattle.std.specs.List.{slice_split, onto_first, position, position_or_len}
use Rattle.std.proofs.lemmas.List.Splits.{slice_split_first}
use Rattle.std.proofs.lemmas.List.{take_rest}
use Rattle.std.proofs.lemmas.Bool.{ltb-true, ltb-false}
use Rattle.msp_name.specs.Reading.{parts}

cond-some : (t : Bool) (n m : ℕ) → cond t (Some n) None ≡ Some m → (t ≡ true) × (n ≡ m)
cond-some true n m e = (refl, cc)
cond-some false n m e = cc

cond-none : (t : Bool) (n : ℕ) → cond t (Some n) None ≡ None → t ≡ false
cond-none true n e = cc
cond-none false n e = refl

whole_step : {X : Type 0} (b : Bool) (x : X) (xs : List X) (n : ℕ) (ps : List (List X))
    → (length xs ≤ n → ps ≡ xs ∷ []) → length (x ∷ xs) ≤ cond (not b) (1 + n) 0 → cond b ([] ∷ ps) (onto_first x ps) ≡ (x ∷ xs) ∷ []
whole_step true x xs n ps k h = absurd (omega arith)
whole_step false x xs n ps k h = let e : ps ≡ xs ∷ [] = k (omega arith) in rw e refl

-- where no separator is found, the text is the one part
whole : {X : Type 0} (p : X → Bool) (xs : List X) → length xs ≤ position_or_len p xs → slice_split p xs ≡ xs ∷ []
whole p [] h = refl
whole p (x ∷ xs) h = whole_step (p x) x xs (position_or_len p xs) (slice_split p xs) (whole p xs) h

cut-some : (separator at : ℕ) (bs : List ℕ) → position (λ x. x == separator) bs ≡ Some at → (parts separator bs ≡ take at bs ∷ parts separator (drop (at + 1) bs)) × (at < length bs)
cut-some separator at bs e =
    let n : ℕ = position_or_len (λ x. x == separator) bs in
    let found = cond-some _ n at e in
    let within : n < length bs = ltb-true _ _ found.0 in
    (rw (found.1) at (slice_split_first (λ x. x == separator) bs 0 within), rw (found.1) at within)

-- the two parts as the slices of the code
pub cut-slices : (separator at : ℕ) (bs : List ℕ) → Some at ≡ position (λ x. x == separator) bs → (parts separator bs ≡ take at bs ∷ parts separator (take (length bs - (at + 1)) (drop (at + 1) bs)))
    × (length (take at bs) + 1 + length (take (length bs - (at + 1)) (drop (at + 1) bs)) ≡ length bs)
cut-slices separator at bs e =
    let found = cut-some separator at bs (sym e) in
    let low : at < length bs = found.1 in
    rw (take_rest bs (at + 1)) (found.0, omega (arith, length-take {A = ℕ} at bs, length-drop {A = ℕ} (at + 1) bs))

pub cut-none : (separator : ℕ) (bs : List ℕ) → position (λ x. x == separator) bs ≡ None → parts separator bs ≡ bs ∷ []
cut-none separator bs e = whole (λ x. x == separator) bs (ltb-false _ _ (cond-none _ (position_or_len (λ x. x == separator) bs) e))

pub ruleset cut_rules = (cut-none)
