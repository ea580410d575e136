-- Printed lines of certificates.
use Rattle.std.proofs.Common.{◌≡◌, ℕ, suc, ◌+◌, ◌<◌, List, [], ◌∷◌, ◌++◌, not, length, drop, get_or, ℤ, pos, refl, sym, ap, ◌∙◌, append_assoc, add-one, drop-cons}
use Rattle.std.specs.Ordering.{int_eq}
use Rattle.std.proofs.lemmas.List.Concat.{flat_map-append}
use Rattle.msp_cert.specs.declared.Certificate.{Certificate}
use Rattle.msp_grammar.specs.ScheduleText.{fraction_text}
use Rattle.msp_grammar.specs.InstanceText.{where_wanted, line_text}
use Rattle.msp_grammar.proofs.PrintLemmas.{fraction_spelled}
use Rattle.msp_cert_text.specs.CertificateText.{numbered_lines, column_line, column_lines, lines_text, printed_certificate, IsStatedCertificate, IsCertificateText}

pub two_line : (w v : List ℕ) → line_text (w ∷ v ∷ []) ≡ w ++ (32 ∷ (v ++ 10 ∷ []))
two_line w v = append_assoc w (32 ∷ v) (10 ∷ [])

pub three_line : (w n v : List ℕ) → line_text (w ∷ n ∷ v ∷ []) ≡ w ++ (32 ∷ (n ++ (32 ∷ (v ++ 10 ∷ []))))
three_line w n v = append_assoc w (32 ∷ (n ++ (32 ∷ v))) (10 ∷ []) ∙ ap (λ x. w ++ (32 ∷ x)) (two_line n v)

pub four_line : (w a b v : List ℕ) → line_text (w ∷ a ∷ b ∷ v ∷ []) ≡ w ++ (32 ∷ (a ++ (32 ∷ (b ++ (32 ∷ (v ++ 10 ∷ []))))))
four_line w a b v = append_assoc w (32 ∷ (a ++ (32 ∷ (b ++ (32 ∷ v))))) (10 ∷ []) ∙ ap (λ x. w ++ (32 ∷ x)) (three_line a b v)

pub lines_text-append : (a b : List (List (List ℕ))) → lines_text (a ++ b) ≡ lines_text a ++ lines_text b
lines_text-append a b = flat_map-append line_text a b

pub lines_put : (o p q : List ℕ) (a b : List (List (List ℕ))) → p ≡ o ++ lines_text a → q ≡ p ++ lines_text b → q ≡ o ++ lines_text (a ++ b)
lines_put o p q a b e f = f ∙ ap (λ x. x ++ lines_text b) e ∙ append_assoc o (lines_text a) (lines_text b) ∙ ap (λ x. o ++ x) (sym (lines_text-append a b))

pub ruleset append_rules = (lines_put)

-- the line of one number, and those of the numbers after it
numbered_next : {A : Type 0} (word : List ℕ) (spell : A → List ℕ) (names : List (List ℕ)) (xs : List A) (at : ℕ) (d : A) → at < length names → at < length xs
    → numbered_lines word spell (drop at names) (drop at xs) ≡ (word ∷ get_or names at [] ∷ spell (get_or xs at d) ∷ []) ∷ numbered_lines word spell (drop (suc at) names) (drop (suc at) xs)
numbered_next word spell names xs at d h k = rw (drop-cons names at [] h, drop-cons xs at d k) refl

pub numbered_step : {A : Type 0} (word : List ℕ) (spell : A → List ℕ) (names : List (List ℕ)) (xs : List A) (at : ℕ) (d : A) (o p total : List ℕ) → at < length names → at < length xs
    → p ≡ o ++ line_text (word ∷ get_or names at [] ∷ spell (get_or xs at d) ∷ []) → o ++ lines_text (numbered_lines word spell (drop at names) (drop at xs)) ≡ total
    → p ++ lines_text (numbered_lines word spell (drop (at + 1) names) (drop (at + 1) xs)) ≡ total
numbered_step {A} word spell names xs at d o p total h k f g =
    let next : at + 1 ≡ suc at = add-one at in
    let rest = lines_text (numbered_lines word spell (drop (suc at) names) (drop (suc at) xs)) in
    let line = line_text (word ∷ get_or names at [] ∷ spell (get_or xs at d) ∷ []) in
    ap (λ k. p ++ lines_text (numbered_lines word spell (drop k names) (drop k xs))) next
    ∙ ap (λ y. y ++ rest) f ∙ append_assoc o line rest ∙ ap (λ y. o ++ lines_text y) (sym (numbered_next word spell names xs at d h k)) ∙ g

-- what is printed is a text of the certificate
pub printed : (names : List (List ℕ)) (machines : ℕ) (c : Certificate) (b : List ℕ) → IsStatedCertificate names machines c → b ≡ printed_certificate names c → IsCertificateText b names machines c
printed names machines c b h e = record { spelling = fraction_text c.bound; spells = fraction_spelled c.bound; text = e; stated = h }

-- the line of one position, if it has one, and those of the positions after it
pub column_step : (jobs : ℕ) (column : List ℤ) (at : ℕ) (d : ℤ) (o p total : List ℕ) → at < length column
    → p ≡ o ++ lines_text (where_wanted (not (int_eq (get_or column at d) (pos 0))) (column_line jobs at (get_or column at d) ∷ [])) → o ++ lines_text (column_lines jobs at (drop at column)) ≡ total
    → p ++ lines_text (column_lines jobs (at + 1) (drop (at + 1) column)) ≡ total
column_step jobs column at d o p total k f g =
    let x = get_or column at d in
    let here = where_wanted (not (int_eq x (pos 0))) (column_line jobs at x ∷ []) in
    let rest = column_lines jobs (suc at) (drop (suc at) column) in
    let next : column_lines jobs at (drop at column) ≡ here ++ rest = ap (column_lines jobs at) (drop-cons column at d k) in
    ap (λ j. p ++ lines_text (column_lines jobs j (drop j column))) (add-one at)
    ∙ ap (λ y. y ++ lines_text rest) f ∙ append_assoc o (lines_text here) (lines_text rest) ∙ ap (λ y. o ++ y) (sym (lines_text-append here rest)) ∙ ap (λ y. o ++ lines_text y) (sym next) ∙ g
