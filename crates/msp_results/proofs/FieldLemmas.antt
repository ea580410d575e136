-- The three fields of a record, and the test for text.
use Rattle.std.proofs.Common.{◌≡◌, ◌≢◌, ℕ, List, [], ◌∷◌, length, refl, sym, Bool, true, false, Some, None, arith}
use Rattle.std.specs.Prelude.{IsUtf8}
use Rattle.std.specs.Str.{is_utf8}
use Rattle.std.proofs.lemmas.Str.{IsUtf8-from_is_utf8, is_utf8-from_IsUtf8}
use Rattle.csv.specs.Records.{field_at}
use Rattle.msp_results.specs.Reading.{three_of}

pub no_first : (fs : List (List ℕ)) → None ≡ field_at fs 0 → None ≡ three_of fs
unfolding field_at
no_first [] e = refl
no_first (a ∷ fs) e = cc

pub no_second : (fs : List (List ℕ)) → None ≡ field_at fs 1 → None ≡ three_of fs
unfolding field_at
no_second [] e = refl
no_second (a ∷ []) e = refl
no_second (a ∷ b ∷ fs) e = cc

pub no_third : (fs : List (List ℕ)) → None ≡ field_at fs 2 → None ≡ three_of fs
unfolding field_at
no_third [] e = refl
no_third (a ∷ []) e = refl
no_third (a ∷ b ∷ []) e = refl
no_third (a ∷ b ∷ c ∷ fs) e = cc

pub not_three : (fs : List (List ℕ)) → length fs ≢ 3 → None ≡ three_of fs
not_three [] n = refl
not_three (a ∷ []) n = refl
not_three (a ∷ b ∷ []) n = refl
not_three (a ∷ b ∷ c ∷ []) n = absurd (n refl)
not_three (a ∷ b ∷ c ∷ d ∷ fs) n = refl

pub all_three : (fs : List (List ℕ)) (x y z : List ℕ) → Some x ≡ field_at fs 0 → Some y ≡ field_at fs 1 → Some z ≡ field_at fs 2 → length fs ≡ 3 → Some (x, y, z) ≡ three_of fs
unfolding field_at
all_three [] x y z e f g n = cc
all_three (a ∷ []) x y z e f g n = cc
all_three (a ∷ b ∷ []) x y z e f g n = cc
all_three (a ∷ b ∷ c ∷ []) x y z e f g n = cc
all_three (a ∷ b ∷ c ∷ d ∷ fs) x y z e f g n = absurd (omega arith)

pub text : (s : List ℕ) → IsUtf8 s → true ≡ is_utf8 s
text s h = sym (is_utf8-from_IsUtf8 s h)

by_test : (s : List ℕ) (b : Bool) → is_utf8 s ≡ b → ¬ (IsUtf8 s) → false ≡ b
by_test s true e n = absurd (n (IsUtf8-from_is_utf8 s e))
by_test s false e n = refl

pub no_text : (s : List ℕ) → ¬ (IsUtf8 s) → false ≡ is_utf8 s
no_text s n = by_test s (is_utf8 s) refl n

pub ruleset field_rules = (no_first, no_second, no_third, not_three, all_three)

pub ruleset text_rules = (text, no_text)
