-- Lines and their fields.
use Rattle.std.proofs.Common.{◌≡◌, ℕ, ◌+◌, ◌<◌, ◌≤◌, ◌==◌, false, List, [], ◌∷◌, length, take, drop, get_or, None, Some, position, count_by, refl, sym, ap, ◌∙◌, arith, add-one, drop-cons, length-take}
use Rattle.std.proofs.lemmas.Bool.{ne_eqb}
use Rattle.std.proofs.lemmas.List.{take_rest, take_all, drop_all}
use Rattle.std.proofs.lemmas.List.Splits.{length-slice_split}
use Rattle.msp_name.proofs.Parts.{cut-slices, cut-none}
use Rattle.std.specs.List.{slice_split}
use Rattle.msp_grammar.specs.lines.Reading.{first_of, others_of}
use Rattle.msp_grammar.specs.lines.Steps.{parts_after, fields_after}

pub fields_counted : (rest : List ℕ) (n : ℕ) → 1 ≤ length rest → n ≡ count_by (λ x. x == 32) (drop 1 rest) → n + 1 ≡ length (fields_after rest)
fields_counted [] n h e = absurd (omega arith)
fields_counted (space ∷ bytes) n h e = ap (λ m. m + 1) e ∙ sym (length-slice_split (λ x. x == 32) bytes)

-- a part ends at the first separator
pub part_some : (separator : ℕ) (line : List ℕ) (k : ℕ) → Some k ≡ position (λ x. x == separator) line → slice_split (λ x. x == separator) line ≡ take k line ∷ parts_after separator (drop k line)
part_some separator line k e =
    let cut = cut-slices separator k line e in
    let within : k < length line = omega (arith, cut.1, length-take k line) in
    let rest : drop k line ≡ get_or line k 0 ∷ drop (k + 1) line = rw (add-one, drop-cons line k 0 within) refl in
    rw rest (cut.0 ∙ ap (λ bs. take k line ∷ slice_split (λ x. x == separator) bs) (take_rest line (k + 1)))

pub part_none : (separator : ℕ) (line : List ℕ) → None ≡ position (λ x. x == separator) line
    → slice_split (λ x. x == separator) line ≡ take (length line) line ∷ parts_after separator (drop (length line) line)
part_none separator line e =
    let whole : take (length line) line ≡ line = take_all (length line) line (omega arith) in
    let rest : drop (length line) line ≡ [] = drop_all (length line) line (omega arith) in
    rw (whole, rest) (cut-none separator line (sym e))

pub ruleset split_rules = (part_some, part_none)

-- ---- two fields

-- where there are bytes from the space on, there is a field
some_fields : (bytes : List ℕ) → 0 < length bytes → 0 < length (fields_after bytes)
some_fields [] h = absurd (omega arith)
some_fields (space ∷ bytes) h = omega (arith, length-slice_split (λ x. x == 32) bytes)

no_fields : (bytes : List ℕ) → length bytes ≡ 0 → fields_after bytes ≡ []
no_fields [] h = refl
no_fields (space ∷ bytes) h = absurd (omega arith)

few_fields : (ws vs : List (List ℕ)) → vs ≡ others_of ws → vs ≡ [] → (length ws == 2) ≡ false
few_fields (w ∷ v ∷ ws) vs e h = absurd cc
few_fields _ vs e h = refl

many_fields : (ws vs us : List (List ℕ)) → vs ≡ others_of ws → us ≡ others_of vs → 0 < length us → (length ws == 2) ≡ false
many_fields ws vs us e f h = by ws (ap others_of e)
  where
    by : (ws : List (List ℕ)) → others_of vs ≡ others_of (others_of ws) → (length ws == 2) ≡ false
    by (w ∷ v ∷ []) g = absurd (omega (arith, ap length (f ∙ g)))
    by (w ∷ v ∷ u ∷ ws) g = ne_eqb (length (w ∷ v ∷ u ∷ ws)) 2 (λ e. omega (arith, e))
    by _ g = refl

just_two : (ws vs us : List (List ℕ)) → vs ≡ others_of ws → us ≡ others_of vs → 0 < length vs → us ≡ [] → ws ≡ first_of ws ∷ first_of vs ∷ []
just_two [] vs us e f some none = absurd (omega (arith, ap length e))
just_two (w ∷ ws) [] us e f some none = absurd (omega arith)
just_two (w ∷ ws) (v ∷ vs) us e f some none = ap (λ xs. w ∷ xs) (sym e ∙ ap (λ xs. v ∷ xs) (sym f ∙ none))

pub one_or_none : (fields others : List ℕ) → fields_after others ≡ others_of (fields_after fields) → length others ≡ 0 → (length (fields_after fields) == 2) ≡ false
one_or_none fields others e none = few_fields (fields_after fields) (fields_after others) e (no_fields others none)

pub three_or_more : (fields others rest : List ℕ) → fields_after others ≡ others_of (fields_after fields) → fields_after rest ≡ others_of (fields_after others) → 0 < length rest
    → (length (fields_after fields) == 2) ≡ false
three_or_more fields others rest e f some = many_fields (fields_after fields) (fields_after others) (fields_after rest) e f (some_fields rest some)

pub two_fields : (fields others rest w v : List ℕ) → w ≡ first_of (fields_after fields) → fields_after others ≡ others_of (fields_after fields) → v ≡ first_of (fields_after others)
    → fields_after rest ≡ others_of (fields_after others) → 0 < length others → length rest ≡ 0 → fields_after fields ≡ w ∷ v ∷ []
two_fields fields others rest w v a e b f some none =
    rw (a, b) (just_two (fields_after fields) (fields_after others) (fields_after rest) e f (some_fields others some) (no_fields rest none))

pub ruleset two_rules = (one_or_none, three_or_more, two_fields)
