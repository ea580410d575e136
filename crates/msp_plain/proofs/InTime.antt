-- The last moment at which a piece is in time fits its type.
use Rattle.std.proofs.Common.{◌≡◌, ℕ, ◌+◌, ◌^◌, ◌<◌, ◌≤◌, Bool, true, false, List, length, get_or, take, All, ℤ, ◌+ℤ◌, ◌*ℤ◌, ◌≤ℤ◌, FitsSigned, to_z, of_z, unsigned_abs, ap, ap₂, subst, subst₂}
use Rattle.std.proofs.Common.{refl, sym, ◌∙◌, arith}
use Rattle.std.specs.Prelude.{IsTrue, int_le, ◌↔◌}
use Rattle.std.specs.Int.{w64, w128}
use Rattle.std.proofs.lemmas.Int.{ints, to_z-of_z}
use Rattle.std.proofs.lemmas.List.{take_more, take_all}
use Rattle.std.proofs.lemmas.List.Elements.{All-push}
use Rattle.msp_class.specs.declared.sizes.TheConstants.{GREATEST_UNIT}
use Rattle.msp_class.proofs.IntegerRing.{natural_some}
use Rattle.msp_instance.specs.Conditions.{LiesWithin}
use Rattle.msp_instance.specs.declared.Job.{Job}
use Rattle.msp_pieces.specs.declared.Piece.{Piece}
use Rattle.msp_plain.specs.Threshold.{IsInTime}
use Rattle.msp_plain.specs.Threshold.{greatest_threshold}
use Rattle.msp_pieces.specs.Within.{IsUnit}
use Rattle.msp_pieces.proofs.costs.Small.{product_within}
use Rattle.msp_route.specs.Sizes.{greatest_row_date}

both_within : (d b : ℤ) → LiesWithin greatest_row_date d → LiesWithin greatest_threshold b → LiesWithin (10 ^ 19) (d +ℤ b)
both_within d b h k = (omega (arith, ints, h.0, k.0), omega (arith, ints, h.1, k.1))

within_fits : (x : ℤ) → LiesWithin (10 ^ 32) x → FitsSigned w128 x
within_fits x h = omega (arith, ints, h.0, h.1)

pub latest_fits : (unit d b : ℤ) → IsUnit unit → LiesWithin greatest_row_date d → LiesWithin greatest_threshold b → FitsSigned w128 (unit *ℤ (d +ℤ b))
latest_fits unit d b u h k =
    let (n, e) = natural_some unit (omega (arith, ints, u.0)) in
    subst (λ z. FitsSigned w128 (z *ℤ (d +ℤ b))) (sym e) (within_fits _ (product_within n (d +ℤ b) (unsigned_abs GREATEST_UNIT)
    (10 ^ 19) (10 ^ 32) (omega (arith, ints, e, u.1)) (both_within d b h k) (omega arith)))

pub fits_again : (u s x y : ℤ) → u ≡ x → s ≡ y → FitsSigned w128 (x *ℤ y) → FitsSigned w128 (u *ℤ s)
fits_again u s x y e f h = subst (FitsSigned w128) (sym (ap₂ (λ a b. a *ℤ b) e f)) h

pub narrow_fits : (x : ℤ) → LiesWithin greatest_row_date x → FitsSigned w64 x
narrow_fits x h = omega (arith, ints, h.0, h.1)

-- the sum as the types read it
pub sum_is : (x d b c : ℤ) → x ≡ to_z w64 (of_z w64 c) +ℤ to_z w64 (of_z w64 b) → c ≡ d → LiesWithin greatest_row_date d → LiesWithin greatest_threshold b → to_z w128 (of_z w128 x) ≡ d +ℤ b
sum_is x d b c e same h k =
    let due_is : to_z w64 (of_z w64 c) ≡ d = ap (λ z. to_z w64 (of_z w64 z)) same ∙ to_z-of_z w64 d (narrow_fits d h) in
    let whole : x ≡ d +ℤ b = e ∙ ap₂ ◌+ℤ◌ due_is (to_z-of_z w64 b (omega (arith, ints, k.0, k.1))) in
    let fits : FitsSigned w128 (d +ℤ b) = omega (arith, ints, h.0, h.1, k.0, k.1) in
    ap (λ z. to_z w128 (of_z w128 z)) whole ∙ to_z-of_z w128 (d +ℤ b) fits

-- the comparison as the types read it
pub compared : (p q x y : ℤ) → p ≡ x → q ≡ y → IsTrue (int_le p q) ↔ (x ≤ℤ y)
compared p q x y e f = subst₂ (λ a b. IsTrue (int_le p q) ↔ (a ≤ℤ b)) e f (by (int_le p q) refl)
  where
    by : (b : Bool) → int_le p q ≡ b → IsTrue b ↔ (p ≤ℤ q)
    by true e = ((λ h. omega (arith, ints)), (λ h. refl))
    by false e = ((λ h. absurd (cc)), (λ h. absurd (omega (arith, ints))))

-- the pieces up to one that is not in time, and up to one that is
pub not_all : {X : Type 0} (P : X → Type 0) (xs : List X) (k : ℕ) (d : X) (b : Bool) → k < length xs → IsTrue b ↔ P (get_or xs k d) → b ≡ false → IsTrue false ↔ All P xs
not_all P xs k d b l h e = ((λ f. absurd (cc)), (λ all. sym e ∙ h.1 (all k d l)))

pub one_more : {X : Type 0} (P : X → Type 0) (xs : List X) (k : ℕ) (d : X) → k < length xs → All P (take k xs) → P (get_or xs k d) → All P (take (k + 1) xs)
one_more P xs k d l h p = subst (All P) (sym (take_more xs k d l)) (All-push P (take k xs) (get_or xs k d) h p)

pub all_of : {X : Type 0} (P : X → Type 0) (xs : List X) (k : ℕ) → length xs ≤ k → All P (take k xs) → IsTrue true ↔ All P xs
all_of P xs k l h = ((λ t. subst (All P) (take_all k xs l) h), (λ t. refl))

pub in_time_again : (jobs : List Job) (u v b : ℤ) (xs ys : List Piece) (k : ℕ) (d : Piece) → u ≡ v → xs ≡ ys → IsInTime jobs u b (get_or xs k d) → IsInTime jobs v b (get_or ys k d)
in_time_again jobs u v b xs ys k d e f h = subst₂ (λ z l. IsInTime jobs z b (get_or l k d)) e f h
