-- A field that is read is the field that was written, and what was written is read again.
use Rattle.std.proofs.Common.{◌≡◌, ◌↔◌, ℕ, suc, ◌<◌, ◌≤◌, ◌^◌, Bool, true, false, ◌&&◌, ◌||◌, ◌==◌, nat_le, List, [], ◌∷◌, length, get_or, position, bytes_eq, Option, Some, None}
use Rattle.std.proofs.Common.{ok_or, Ok, ℤ, pos, negsuc, unsigned_abs, All, refl, sym, ap, subst, ◌∙◌, arith, decimal, ◌++◌, ◌+◌, ◌-◌}
use Rattle.std.specs.Char.{is_ascii_digit}
use Rattle.std.specs.Fmt.{signed_decimal}
use Rattle.std.specs.List.{list_all, list_any, position_or_len}
use Rattle.std.proofs.lemmas.Bool.{and_parts, eqb-true, leb-true, le-leb, lt-ltb, false_from_ne_true}
use Rattle.std.proofs.lemmas.Int.{ints}
use Rattle.std.proofs.lemmas.Fmt.{decimal_is_IsNumeral_wide}
use Rattle.std.proofs.lemmas.Slice.Eq.{bytes_eq-Decides}
use Rattle.std.proofs.lemmas.Str.Parse.{numerals_by_value, tells_all_ascii_digits}
use Rattle.std.proofs.lemmas.List.Quantifiers.{position-Some}
use Rattle.std.proofs.lemmas.List.Sums.{AllPass-from_list_all, list_all-from_AllPass, position_or_len_is}
use Rattle.msp_name.proofs.Separators.{Lacks}
use Rattle.msp_instance.specs.Conditions.{LiesWithin}
use Rattle.msp_class.specs.declared.sizes.TheConstants.{GREATEST}
use Rattle.msp_text.specs.declared.job_name.TheConstants.{LONGEST_NAME}
use Rattle.msp_grammar.specs.declared.lines.fault.FileFault.{FileFault}
use Rattle.msp_grammar.specs.declared.lines.fault.FileFault.TheVariants.{Number, Limit, Name, Unknown, Count}
use Rattle.msp_grammar.specs.declared.lines.fault.What.{What}
use Rattle.msp_grammar.specs.declared.lines.fault.What.TheVariants as what
use Rattle.msp_text.specs.JobName.{is_name_byte, IsJobName, AreDistinct}
use Rattle.msp_text.specs.Numbers.{number_of}
use Rattle.msp_grammar.specs.ScheduleText.{name_at}
use Rattle.msp_grammar.specs.lines.Reading.{provided, natural_in, natural_at, integer_at, is_name_text, job_name_at, known_at, Place, first_of, worded_at, number_line_at, ordinal_at}
use Rattle.msp_text.proofs.NameLists.{same_bytes}
use Rattle.msp_text.proofs.NumberTexts.{some, same_digits, number_spells, number_again}
use Rattle.msp_grammar.proofs.reading.LineLaws.{bind_ok, provided_ok, ok_is, IsField, Takes, Gets, worded_takes, worded_again, one_field, bind_again}
use Rattle.msp_grammar.specs.InstanceText.{line_text}

pub ok_some : {A : Type 0} (o : Option A) (d : FileFault) (x : A) → ok_or o d ≡ Ok x → o ≡ Some x
ok_some (Some y) d x e = cc
ok_some None d x e = absurd cc

-- a text of bytes that pass a test lacks each byte that does not pass
pub lacks_others : (passes : ℕ → Bool) (m : ℕ) (w : List ℕ) → passes m ≡ false → list_all passes w ≡ true → Lacks m w
lacks_others passes m [] fails h = refl
lacks_others passes m (x ∷ xs) fails h = let both = and_parts (passes x) (list_all passes xs) h in by (x == m) refl both.0 (lacks_others passes m xs fails both.1)
  where
    by : (t : Bool) → (x == m) ≡ t → passes x ≡ true → Lacks m xs → (t || list_any (λ y. y == m) xs) ≡ false
    by true e h k = let same : passes x ≡ passes m = ap passes (eqb-true x m e) in absurd cc
    by false e h k = k

-- ---- numbers

pub natural_in_takes : (at : ℕ) (quantity : What) (least greatest : ℕ) (x : ℤ) (n : ℕ) → natural_in at quantity least greatest x ≡ Ok n → (x ≡ pos n) × (least ≤ n) × (n ≤ greatest)
natural_in_takes at quantity least greatest (pos m) n e =
    let t = provided_ok (nat_le least m && nat_le m greatest) (Limit at quantity) (Ok m) n e in
    let both = and_parts (nat_le least m) (nat_le m greatest) t.0 in
    let same : m ≡ n = ok_is m n t.1 in
    (ap pos same, subst (λ k. least ≤ k) same (leb-true least m both.0), subst (λ k. k ≤ greatest) same (leb-true m greatest both.1))
natural_in_takes at quantity least greatest (negsuc m) n e = absurd cc

pub wide_takes : (at : ℕ) (quantity : What) (least greatest : ℕ) (w : List ℕ) (n : ℕ)
    → greatest < 10 ^ 64 → natural_at at quantity least greatest w ≡ Ok n → (w ≡ decimal n) × (least ≤ n) × (n ≤ greatest)
unfolding natural_at
wide_takes at quantity least greatest w n h e =
    let b = bind_ok (ok_or (number_of w) (Number at)) (natural_in at quantity least greatest) n e in
    let t = natural_in_takes at quantity least greatest b.0 n b.2 in
    let is : number_of w ≡ Some (pos n) = ok_some (number_of w) (Number at) b.0 b.1 ∙ ap some t.0 in
    let high : n ≤ greatest = t.2 in
    (number_spells w (pos n) is (omega arith), t.1, t.2)

pub wide_again : (at : ℕ) (quantity : What) (least greatest n : ℕ) → greatest < 10 ^ 64 → least ≤ n → n ≤ greatest → natural_at at quantity least greatest (decimal n) ≡ Ok n
unfolding natural_at
wide_again at quantity least greatest n h low high =
    let is : number_of (decimal n) ≡ Some (pos n) = number_again (pos n) (omega arith) in
    rw (is, le-leb least n low, le-leb n greatest high) refl

-- the digits of a number are no other byte
pub digits_lack : (m n : ℕ) → is_ascii_digit m ≡ false → n < 10 ^ 64 → Lacks m (decimal n)
digits_lack m n other h =
    let digits : list_all is_ascii_digit (decimal n) ≡ true = sym (same_digits (decimal n)) ∙ (numerals_by_value _ tells_all_ascii_digits).from (decimal n) (decimal_is_IsNumeral_wide n h).0.1 in
    lacks_others is_ascii_digit m (decimal n) other digits

pub wide_field : (n : ℕ) → n < 10 ^ 64 → IsField (decimal n)
wide_field n h = record { no_space = digits_lack 32 n refl h; no_line_feed = digits_lack 10 n refl h }

pub natural_field : (n : ℕ) → n ≤ GREATEST → IsField (decimal n)
natural_field n h = wide_field n (omega arith)

-- the size of a number within a limit, and back
pub within_size : (greatest : ℕ) (x : ℤ) → unsigned_abs x ≤ greatest → LiesWithin greatest x
within_size greatest (pos n) h = (omega (arith, ints), omega (arith, ints))
within_size greatest (negsuc n) h = (omega (arith, ints), omega (arith, ints))

pub size_within : (greatest : ℕ) (x : ℤ) → LiesWithin greatest x → unsigned_abs x ≤ greatest
size_within greatest (pos n) h = omega (arith, ints, h.0, h.1)
size_within greatest (negsuc n) h = omega (arith, ints, h.0, h.1)

pub signed_takes : (at : ℕ) (quantity : What) (greatest : ℕ) (w : List ℕ) (x : ℤ) → greatest < 10 ^ 64 → integer_at at quantity greatest w ≡ Ok x → (w ≡ signed_decimal x) × LiesWithin greatest x
unfolding integer_at
signed_takes at quantity greatest w x h e =
    let b = bind_ok (ok_or (number_of w) (Number at)) (λ y. provided (nat_le (unsigned_abs y) greatest) (Limit at quantity) (Ok y)) x e in
    let t = provided_ok (nat_le (unsigned_abs b.0) greatest) (Limit at quantity) (Ok b.0) x b.2 in
    let same : b.0 ≡ x = ok_is b.0 x t.1 in
    let is : number_of w ≡ Some x = ok_some (number_of w) (Number at) b.0 b.1 ∙ ap some same in
    let size : unsigned_abs x ≤ greatest = subst (λ y. unsigned_abs y ≤ greatest) same (leb-true (unsigned_abs b.0) greatest t.0) in
    (number_spells w x is (omega arith), within_size greatest x size)

pub signed_again : (at : ℕ) (quantity : What) (greatest : ℕ) (x : ℤ) → greatest < 10 ^ 64 → LiesWithin greatest x → integer_at at quantity greatest (signed_decimal x) ≡ Ok x
unfolding integer_at
signed_again at quantity greatest x h within =
    let size : unsigned_abs x ≤ greatest = size_within greatest x within in
    let is : number_of (signed_decimal x) ≡ Some x = number_again x (omega arith) in
    rw (is, le-leb (unsigned_abs x) greatest size) refl

pub signed_field : {greatest : ℕ} (x : ℤ) → greatest < 10 ^ 64 → LiesWithin greatest x → IsField (signed_decimal x)
signed_field {greatest} (pos n) few h = wide_field n (let size = size_within greatest (pos n) h in omega arith)
signed_field {greatest} (negsuc n) few h =
    let small : suc n < 10 ^ 64 = let size = size_within greatest (negsuc n) h in omega arith in
    let f = wide_field (suc n) small in record { no_space = f.no_space; no_line_feed = f.no_line_feed }

pub integer_field : (x : ℤ) → LiesWithin GREATEST x → IsField (signed_decimal x)
integer_field x h = signed_field x (omega arith) h

-- ---- names

name_is : (w : List ℕ) → (is_name_text w ≡ true) ↔ ((1 ≤ length w) × (list_all is_name_byte w ≡ true))
name_is [] = (λ h. absurd cc, λ h. absurd (omega (arith, h.0)))
name_is (b ∷ bs) = (λ h. (omega arith, h), λ h. h.1)

pub name_takes : (at : ℕ) (w name : List ℕ) → job_name_at at w ≡ Ok name → (w ≡ name) × IsJobName name
unfolding job_name_at
name_takes at w name e =
    let s = provided_ok (is_name_text w) (Name at) (provided (nat_le (length w) LONGEST_NAME) (Limit at what.Name) (Ok w)) name e in
    let t = provided_ok (nat_le (length w) LONGEST_NAME) (Limit at what.Name) (Ok w) name s.1 in
    let same : w ≡ name = ok_is w name t.1 in
    let bytes = (name_is w).0 s.0 in
    let is : IsJobName w = record { some = bytes.0; short = leb-true (length w) LONGEST_NAME t.0; bytes = AllPass-from_list_all is_name_byte w bytes.1 } in
    (same, subst IsJobName same is)

pub name_again : (at : ℕ) (name : List ℕ) → IsJobName name → job_name_at at name ≡ Ok name
unfolding job_name_at
name_again at name h = rw ((name_is name).1 (h.some, list_all-from_AllPass is_name_byte name h.bytes), le-leb (length name) LONGEST_NAME h.short) refl

pub name_field : (name : List ℕ) → IsJobName name → IsField name
name_field name h =
    let all = list_all-from_AllPass is_name_byte name h.bytes in
    record { no_space = lacks_others is_name_byte 32 name refl all; no_line_feed = lacks_others is_name_byte 10 name refl all }

pub known_takes : (at : ℕ) (names : List (List ℕ)) (w : List ℕ) (k : ℕ) → known_at at names w ≡ Ok k → (w ≡ name_at names k) × (k < length names)
unfolding known_at
known_takes at names w k e =
    let b = bind_ok (job_name_at at w) (λ name. ok_or (position (bytes_eq name) names) (Unknown at)) k e in
    let found = ok_some (position (bytes_eq b.0) names) (Unknown at) k b.2 in
    let there = position-Some (bytes_eq b.0) names k [] found in
    ((name_takes at w b.0 b.1).0 ∙ same_bytes b.0 (get_or names k []) there.1, there.0)

-- a name of distinct ones is found at its place
found_again : (names : List (List ℕ)) (k : ℕ) → AreDistinct names → k < length names → position (bytes_eq (get_or names k [])) names ≡ Some k
found_again names k apart h =
    let place : position_or_len (bytes_eq (get_or names k [])) names ≡ k = position_or_len_is (bytes_eq (get_or names k [])) names k [] (omega arith)
    (λ j l. false_from_ne_true _ (λ e. apart j k [] l h (sym (same_bytes _ _ e)))) (λ within. (bytes_eq-Decides (get_or names k []) (get_or names k [])).1 refl) in
    rw (place, lt-ltb k (length names) h) refl

pub known_again : (at : ℕ) (names : List (List ℕ)) (k : ℕ) → AreDistinct names → All IsJobName names → k < length names → known_at at names (name_at names k) ≡ Ok k
unfolding known_at
known_again at names k apart spelled h =
    rw (name_again at (get_or names k []) (spelled k [] h), found_again names k apart h) refl

-- ---- numbers from 1, and lines of one number

pub number_line_takes : (word : List ℕ) (quantity : What) (greatest : ℕ) (p : Place) (x : ℕ × Place)
    → greatest < 10 ^ 64 → number_line_at word quantity greatest p ≡ Ok x → Takes p (line_text (word ∷ decimal x.0 ∷ [])) x.1 × ((1 ≤ x.0) × (x.0 ≤ greatest))
unfolding number_line_at
number_line_takes word quantity greatest p x few h =
    let l = bind_ok (worded_at word p) _ x h in
    let t = provided_ok (length l.0.0 == 1) (Count p.at) _ x l.2 in
    let m = bind_ok (natural_at p.at quantity 1 greatest (first_of l.0.0)) _ x t.1 in
    let n = wide_takes p.at quantity 1 greatest (first_of l.0.0) m.0 few m.1 in
    let is : l.0.0 ≡ decimal m.0 ∷ [] = one_field l.0.0 t.0 ∙ ap (λ w. w ∷ []) n.0 in
    let text : Takes p (line_text (word ∷ decimal m.0 ∷ [])) l.0.1 = subst (λ ws. Takes p (line_text (word ∷ ws)) l.0.1) is (worded_takes word p l.0 l.1) in
    subst (λ y. Takes p (line_text (word ∷ decimal y.0 ∷ [])) y.1 × ((1 ≤ y.0) × (y.0 ≤ greatest))) (ok_is (m.0, l.0.1) x m.2) (text, (n.1, n.2))

pub number_line_again : (word : List ℕ) (quantity : What) (greatest at number : ℕ) (rest : List ℕ) → IsField word → greatest < 10 ^ 64 → 1 ≤ number → number ≤ greatest
    → Gets (number_line_at word quantity greatest (record { at = at; rest = line_text (word ∷ decimal number ∷ []) ++ rest })) number rest
unfolding number_line_at
number_line_again word quantity greatest at number rest worded few low high =
    let line = worded_again word (decimal number ∷ []) at rest (worded, (wide_field number (omega arith), tt)) in
    (line.0, rw (line.1, wide_again at quantity 1 greatest number few low high) refl)

pub ordinal_takes : (at : ℕ) (quantity : What) (most : ℕ) (w : List ℕ) (k : ℕ) → most < 10 ^ 64 → ordinal_at at quantity most w ≡ Ok k → (w ≡ decimal (k + 1)) × (k < most)
unfolding ordinal_at
ordinal_takes at quantity most w k few e =
    let a = bind_ok (natural_at at quantity 1 most w) _ k e in
    let t = wide_takes at quantity 1 most w a.0 few a.1 in
    let is : a.0 ≡ k + 1 = omega (arith, ok_is (a.0 - 1) k a.2, t.1) in
    (t.0 ∙ ap decimal is, omega (arith, is, t.2))

pub ordinal_again : (at : ℕ) (quantity : What) (most k : ℕ) → most < 10 ^ 64 → k < most → ordinal_at at quantity most (decimal (k + 1)) ≡ Ok k
unfolding ordinal_at
ordinal_again at quantity most k few h =
    let is : k + 1 - 1 ≡ k = omega arith in
    bind_again _ _ _ _ (wide_again at quantity 1 most (k + 1) few (omega arith) (omega arith)) (ap Ok is)
