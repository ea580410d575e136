-- The sizes of spelled numbers.
use Rattle.std.proofs.Common.{◌≡◌, ◌≢◌, ℕ, zero, suc, ◌+◌, ◌-◌, ◌*◌, ◌^◌, ◌<◌, ◌≤◌, min, true, not, ◌==◌, eqb, List, [], ◌∷◌, length, take, get_or, Some, pos, neg_ℤ, refl, sym, ap}
use Rattle.std.proofs.Common.{◌∙◌, arith, add-one}
use Rattle.std.specs.Char.{is_ascii_digit, digit_value}
use Rattle.std.specs.List.{list_all}
use Rattle.std.specs.Int.{IsInRange}
use Rattle.std.specs.Option.{option_map}
use Rattle.std.proofs.lemmas.Bool.{eq-eqb, and_parts}
use Rattle.std.proofs.lemmas.Str.{digit_value_digit}
use Rattle.std.proofs.lemmas.Str.Parse.{tells_all_ascii_digits}
use Rattle.std.specs.Str.Parse.{digits_value, digits_value_after}
use Rattle.std.proofs.lemmas.Int.Digits.{digits_value_more}
use Rattle.msp_text.specs.Numbers.{is_positive, negative_of, capped}

cap_more : (v d m s M : ℕ) → m ≡ min (min v M * 10) M → s ≡ min (m + d) M → s ≡ min (v * 10 + d) M
cap_more v d m s M e f = omega arith

-- one more digit
pub size_more : (ds : List ℕ) (i size d m s : ℕ) → i < length ds → size ≡ min (digits_value 10 (take i ds)) (2 ^ 128 - 1) → d ≡ digit_value (get_or ds i 0)
    → m ≡ min (size * 10) (2 ^ 128 - 1) → s ≡ min (m + d) (2 ^ 128 - 1) → s ≡ min (digits_value 10 (take (i + 1) ds)) (2 ^ 128 - 1)
size_more ds i size d m s h e f g k =
    let v = digits_value 10 (take i ds) in
    cap_more v d m s (2 ^ 128 - 1) (g ∙ ap (λ n. min (n * 10) (2 ^ 128 - 1)) e) k
    ∙ ap (λ n. min (v * 10 + n) (2 ^ 128 - 1)) f ∙ ap (λ n. min n (2 ^ 128 - 1)) (sym (digits_value_more 10 ds i h))

pub after_grows : (n : ℕ) (ds : List ℕ) → n ≤ digits_value_after 10 n ds
after_grows n [] = omega arith
after_grows n (d ∷ ds) = let h : n * 10 + digit_value d ≤ digits_value_after 10 (n * 10 + digit_value d) ds = after_grows (n * 10 + digit_value d) ds in omega arith

not_zero : (c : ℕ) → not (c == 48) ≡ true → c ≢ 48
not_zero c h e = let t : eqb c 48 ≡ true = eq-eqb c 48 e in cc

in_digits : (c : ℕ) → is_ascii_digit c ≡ true → IsInRange 48 57 c
in_digits c h = (tells_all_ascii_digits.parts c [] (rw h refl)).0

-- a number that begins with a digit from 1 to 9 is at least 1
pub positive_value : (ds : List ℕ) → is_positive ds ≡ true → 1 ≤ digits_value 10 ds
positive_value [] h = absurd cc
positive_value (c ∷ ds) h =
    let parts = and_parts (not (c == 48)) (list_all is_ascii_digit (c ∷ ds)) h in
    let digits = and_parts (is_ascii_digit c) (list_all is_ascii_digit ds) parts.1 in
    let range = in_digits c digits.0 in
    let value : digit_value c + 48 ≡ c = digit_value_digit c range in
    let other : c ≢ 48 = not_zero c parts.0 in
    let grows : 0 * 10 + digit_value c ≤ digits_value_after 10 (0 * 10 + digit_value c) ds = after_grows (0 * 10 + digit_value c) ds in
    omega arith

capped_negative : (v size : ℕ) → 1 ≤ v → size ≡ min v (2 ^ 128 - 1) → Some (record { negative = true; size = size }) ≡ Some (capped (neg_ℤ (pos v)))
capped_negative zero size h e = absurd (omega arith)
capped_negative (suc n) size h e = ap (λ s. Some (record { negative = true; size = s })) (e ∙ ap (λ m. min m (2 ^ 128 - 1)) (sym (add-one n)))

-- what is spelled behind the sign
pub negative_spelled : (ds : List ℕ) (size : ℕ) → is_positive ds ≡ true
    → size ≡ min (digits_value 10 ds) (2 ^ 128 - 1) → Some (record { negative = true; size = size }) ≡ option_map capped (negative_of ds)
negative_spelled ds size h e = rw h (capped_negative (digits_value 10 ds) size (positive_value ds h) e)
