-- A number has one spelling, and that spelling is read as the number.
use Rattle.std.proofs.Common.{◌≡◌, ℕ, zero, suc, ◌+◌, ◌*◌, ◌/◌, ◌%◌, ◌^◌, ◌<◌, ◌≤◌, Bool, true, false, not, ◌&&◌, ◌==◌, eqb, if◌then◌else◌, List, [], ◌∷◌, ◌++◌, length, get_or}
use Rattle.std.proofs.Common.{Option, Some, None, ℤ, pos, negsuc, neg_ℤ, unsigned_abs, refl, sym, ap, subst, ◌∙◌, append_assoc, append-nil, arith, decimal}
use Rattle.std.specs.Char.{is_ascii_digit, digit_value}
use Rattle.std.specs.Fmt.{signed_decimal}
use Rattle.std.specs.List.{list_all}
use Rattle.std.specs.Str.{all_ascii_digits}
use Rattle.std.specs.Str.Parse.{AllDigits, digits_value, digits_value_after}
use Rattle.std.proofs.lemmas.Bool.{and_parts, eqb-true, eq-eqb}
use Rattle.std.proofs.lemmas.Str.Parse.{numerals_by_value, tells_all_ascii_digits, digit_from_value}
use Rattle.std.proofs.lemmas.Str.{digit_value_digit}
use Rattle.std.proofs.lemmas.List.Folds.{list_all-append}
use Rattle.std.proofs.lemmas.Fmt.{decimal_digit, decimal_step_wide, decimal_by_steps_wide, decimal_is_IsNumeral_wide}
use Rattle.msp_text.specs.Numbers.{is_natural, is_positive, natural_of, negative_of, number_of}
use Rattle.msp_text.proofs.Numbers.{after_grows, positive_value}

-- the text of a number: what it begins with
record IsSpelling (n : ℕ) (ds : List ℕ) : Type 0 where
  natural : is_natural ds ≡ true
  positive : 0 < n → is_positive ds ≡ true

digit_of : (d : ℕ) → d < 10 → is_ascii_digit (48 + d) ≡ true
digit_of d h = grind arith

not_zero : (d : ℕ) → 0 < d → not ((48 + d) == 48) ≡ true
not_zero d h = by (eqb (48 + d) 48) refl
  where
    by : (t : Bool) → eqb (48 + d) 48 ≡ t → not t ≡ true
    by true e = let same : 48 + d ≡ 48 = eqb-true (48 + d) 48 e in absurd (omega arith)
    by false e = refl

one_digit : (n : ℕ) → n < 10 → IsSpelling n ((48 + n) ∷ [])
one_digit n h = record { natural = digit_of n h; positive = λ p. rw (not_zero n p, digit_of n h) refl }

positive_more : (ds : List ℕ) (d : ℕ) → is_positive ds ≡ true → is_ascii_digit d ≡ true → is_positive (ds ++ d ∷ []) ≡ true
positive_more [] d h k = absurd cc
positive_more (c ∷ cs) d h k = grind (arith, list_all-append)

positive_natural : (ds : List ℕ) → is_positive ds ≡ true → is_natural ds ≡ true
positive_natural [] h = absurd cc
positive_natural (c ∷ []) h = grind arith
positive_natural (c ∷ d ∷ ds) h = h

more_digits : (n : ℕ) (ds : List ℕ) → 10 ≤ n → IsSpelling (n / 10) ds → IsSpelling n (ds ++ (48 + n % 10) ∷ [])
more_digits n ds h s =
    let last : n % 10 < 10 = omega arith in
    let all : is_positive (ds ++ (48 + n % 10) ∷ []) ≡ true = positive_more ds (48 + n % 10) (s.positive (omega arith)) (digit_of (n % 10) last) in
    record { natural = positive_natural (ds ++ (48 + n % 10) ∷ []) all; positive = λ p. all }

spelled : (n : ℕ) → n < 10 ^ 64 → IsSpelling n (decimal n)
spelled n h = decimal_by_steps_wide IsSpelling one_digit more_digits n h

-- the spelling of a natural number is read as the number
natural_again : (n : ℕ) → n < 10 ^ 64 → natural_of (decimal n) ≡ Some (pos n)
natural_again n h = rw ((spelled n h).natural) (ap (λ v. Some (pos v)) (decimal_is_IsNumeral_wide n h).1)

negative_again : (n : ℕ) → suc n < 10 ^ 64 → negative_of (decimal (suc n)) ≡ Some (negsuc n)
negative_again n h = rw ((spelled (suc n) h).positive (omega arith)) (ap (λ v. Some (neg_ℤ (pos v))) (decimal_is_IsNumeral_wide (suc n) h).1)

-- ---- a text that spells a number is its spelling

abbrev pub some : {A : Type 0} → A → Option A
some x = Some x

pub some_is : {A : Type 0} (x y : A) → some x ≡ some y → x ≡ y
some_is x y e = cc

pub same_digits : (ds : List ℕ) → all_ascii_digits ds ≡ list_all is_ascii_digit ds
same_digits [] = refl
same_digits (c ∷ cs) = ap (λ b. is_ascii_digit c && b) (same_digits cs)

-- digits after those of a number
digits_after : (n : ℕ) (ds : List ℕ) → 0 < n → AllDigits 10 ds → digits_value_after 10 n ds < 10 ^ 64 → decimal (digits_value_after 10 n ds) ≡ decimal n ++ ds
digits_after n [] some d small = sym (append-nil (decimal n))
digits_after n (c ∷ cs) some d small =
    let m : ℕ = n * 10 + digit_value c in
    let k = digit_value_digit c (digit_from_value c d.0) in
    let front : m / 10 ≡ n = omega (arith, d.0) in
    let last : 48 + m % 10 ≡ c = omega (arith, d.0) in
    digits_after m cs (omega arith) d.1 small
    ∙ ap (λ x. x ++ cs) (decimal_step_wide m (omega arith) (omega (arith, after_grows m cs)) ∙ (λ i. decimal (front i) ++ (last i ∷ [])))
    ∙ append_assoc (decimal n) (c ∷ []) cs

digits_spell : (ds : List ℕ) → AllDigits 10 ds → 0 < length ds → (get_or ds 0 0 ≡ 48 → length ds ≡ 1) → digits_value 10 ds < 10 ^ 64 → decimal (digits_value 10 ds) ≡ ds
digits_spell [] d some lead small = absurd (omega arith)
digits_spell (c ∷ []) d some lead small =
    let k = digit_value_digit c (digit_from_value c d.0) in
    decimal_digit (0 * 10 + digit_value c) (omega (arith, d.0)) ∙ ap (λ x. x ∷ []) (omega arith)
digits_spell (c ∷ e ∷ cs) d some lead small =
    let k = digit_value_digit c (digit_from_value c d.0) in
    let no : c ≡ 48 → ⊥ = λ z. omega (arith, lead z) in
    let is : 48 + (0 * 10 + digit_value c) ≡ c = omega arith in
    digits_after (0 * 10 + digit_value c) (e ∷ cs) (omega arith) d.1 small
    ∙ ap (λ x. x ++ (e ∷ cs)) (decimal_digit (0 * 10 + digit_value c) (omega (arith, d.0)) ∙ ap (λ x. x ∷ []) is)

-- digits that spell a number are its spelling
digits_take : (ds : List ℕ) → list_all is_ascii_digit ds ≡ true → 0 < length ds → (get_or ds 0 0 ≡ 48 → length ds ≡ 1) → digits_value 10 ds < 10 ^ 64 → ds ≡ decimal (digits_value 10 ds)
digits_take ds all some alone small = sym (digits_spell ds ((numerals_by_value _ tells_all_ascii_digits).to ds (same_digits ds ∙ all)) some alone small)

positive_take : (ds : List ℕ) → is_positive ds ≡ true → digits_value 10 ds < 10 ^ 64 → ds ≡ decimal (digits_value 10 ds)
positive_take [] h small = absurd cc
positive_take (c ∷ ds) h small =
    let parts = and_parts (not (c == 48)) (list_all is_ascii_digit (c ∷ ds)) h in
    digits_take (c ∷ ds) parts.1 (omega arith) (λ e. let same : (c == 48) ≡ true = eq-eqb c 48 e in absurd cc) small

natural_take : (ds : List ℕ) → is_natural ds ≡ true → digits_value 10 ds < 10 ^ 64 → ds ≡ decimal (digits_value 10 ds)
natural_take [] h small = absurd cc
natural_take (c ∷ []) h small = digits_take (c ∷ []) (rw h refl) (omega arith) (λ e. refl) small
natural_take (c ∷ d ∷ ds) h small = positive_take (c ∷ d ∷ ds) h small

abbrev natural_if : Bool → List ℕ → Option ℤ
natural_if b ds = if b then Some (pos (digits_value 10 ds)) else None

abbrev negative_if : Bool → List ℕ → Option ℤ
negative_if b ds = if b then Some (neg_ℤ (pos (digits_value 10 ds))) else None

natural_spells : (ds : List ℕ) (x : ℤ) → natural_of ds ≡ Some x → unsigned_abs x < 10 ^ 64 → ds ≡ signed_decimal x
natural_spells ds x e small = by (is_natural ds) refl e
  where
    by : (b : Bool) → is_natural ds ≡ b → natural_if b ds ≡ Some x → ds ≡ signed_decimal x
    by true is e =
        let same : pos (digits_value 10 ds) ≡ x = some_is (pos (digits_value 10 ds)) x e in
        natural_take ds is (subst (λ y. unsigned_abs y < 10 ^ 64) (sym same) small) ∙ ap signed_decimal same
    by false is e = absurd cc

size_negated : (v : ℕ) → unsigned_abs (neg_ℤ (pos v)) ≡ v
size_negated zero = refl
size_negated (suc n) = refl

spelled_negated : (v : ℕ) → 1 ≤ v → signed_decimal (neg_ℤ (pos v)) ≡ 45 ∷ decimal v
spelled_negated zero h = absurd (omega arith)
spelled_negated (suc n) h = refl

negative_spells : (ds : List ℕ) (x : ℤ) → negative_of ds ≡ Some x → unsigned_abs x < 10 ^ 64 → 45 ∷ ds ≡ signed_decimal x
negative_spells ds x e small = by (is_positive ds) refl e
  where
    by : (b : Bool) → is_positive ds ≡ b → negative_if b ds ≡ Some x → 45 ∷ ds ≡ signed_decimal x
    by true is e =
        let v = digits_value 10 ds in
        let same : neg_ℤ (pos v) ≡ x = some_is (neg_ℤ (pos v)) x e in
        let size : v < 10 ^ 64 = subst (λ n. n < 10 ^ 64) (size_negated v) (subst (λ y. unsigned_abs y < 10 ^ 64) (sym same) small) in
        ap (λ w. 45 ∷ w) (positive_take ds is size) ∙ sym (spelled_negated v (positive_value ds is)) ∙ ap signed_decimal same
    by false is e = absurd cc

-- a text that spells a number is its spelling
pub number_spells : (w : List ℕ) (x : ℤ) → number_of w ≡ Some x → unsigned_abs x < 10 ^ 64 → w ≡ signed_decimal x
unfolding number_of
number_spells [] x e small = absurd cc
number_spells (c ∷ ds) x e small = by (c == 45) refl e
  where
    by : (b : Bool) → (c == 45) ≡ b → (if b then negative_of ds else natural_of (c ∷ ds)) ≡ Some x → c ∷ ds ≡ signed_decimal x
    by true is e = ap (λ d. d ∷ ds) (eqb-true c 45 is) ∙ negative_spells ds x e small
    by false is e = natural_spells (c ∷ ds) x e small

no_sign : (ds : List ℕ) (x : ℤ) → natural_of (45 ∷ ds) ≡ Some x → ⊥
no_sign [] x e = cc
no_sign (d ∷ ds) x e = cc

natural_number : (w : List ℕ) (x : ℤ) → natural_of w ≡ Some x → number_of w ≡ Some x
unfolding number_of
natural_number [] x e = e
natural_number (c ∷ ds) x e = by (c == 45) refl
  where
    by : (b : Bool) → (c == 45) ≡ b → (if b then negative_of ds else natural_of (c ∷ ds)) ≡ Some x
    by true is = absurd (no_sign ds x (subst (λ d. natural_of (d ∷ ds) ≡ Some x) (eqb-true c 45 is) e))
    by false is = e

-- the spelling of a number is read as the number
pub number_again : (x : ℤ) → unsigned_abs x < 10 ^ 64 → number_of (signed_decimal x) ≡ Some x
unfolding number_of
number_again (pos n) h = natural_number (decimal n) (pos n) (natural_again n h)
number_again (negsuc n) h = negative_again n h
