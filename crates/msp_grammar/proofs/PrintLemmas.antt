-- Printed fields and lines.
use Rattle.std.proofs.Common.{◌≡◌, ℕ, Bool, true, false, ℤ, pos, if◌then◌else◌, List, [], ◌∷◌, ◌++◌, Result, Ok, Err, refl, sym, ap, ◌∙◌, append_assoc, codes, suc, ◌+◌, ◌<◌, length}
use Rattle.std.proofs.Common.{drop, get_or, add-one, drop-cons, map}
use Rattle.std.specs.Prelude.{OnOk}
use Rattle.std.specs.Fmt.{signed_decimal}
use Rattle.std.specs.Ordering.{int_eq}
use Rattle.std.specs.List.{join_with_byte, flat_map}
use Rattle.std.proofs.lemmas.List.{append-nil}
use Rattle.std.proofs.lemmas.Bool.Decides.{Decides-int_eq}
use Rattle.std.proofs.lemmas.List.Concat.{flat_map-append}
use Rattle.msp_grammar.specs.InstanceText.{line_text, job_text, jobs_text}
use Rattle.msp_class.specs.declared.class.Class.{Class}
use Rattle.msp_instance.specs.declared.Job.{Job}
use Rattle.msp_pieces.specs.declared.Frac.{Frac}
use Rattle.msp_pieces.specs.declared.Schedule.{Schedule}
use Rattle.msp_grammar.specs.ScheduleText.{fraction_text, IsFractionText, alone, over, schedule_text, IsStated, IsScheduleText}
use Rattle.msp_grammar.specs.Printing.{spaced}

pub on_ok : {A E : Type 0} (r : Result A E) {P Q : Type 0} → (P → Q) → OnOk r P → OnOk r Q
on_ok (Ok x) f h = f h
on_ok (Err e) f h = tt

spaced-append : (a b : List (List ℕ)) → spaced (a ++ b) ≡ spaced a ++ spaced b
spaced-append a b = flat_map-append (λ w. 32 ∷ w) a b

one_more : (o p q : List ℕ) (a b : List (List ℕ)) → p ≡ o ++ spaced a → q ≡ p ++ spaced b → q ≡ o ++ spaced (a ++ b)
one_more o p q a b e f = f ∙ ap (λ x. x ++ spaced b) e ∙ append_assoc o (spaced a) (spaced b) ∙ ap (λ x. o ++ x) (sym (spaced-append a b))

pub four : (o p q r s : List ℕ) (a b c d : List (List ℕ)) → p ≡ o ++ spaced a → q ≡ p ++ spaced b → r ≡ q ++ spaced c → s ≡ r ++ spaced d → s ≡ o ++ spaced (a ++ b ++ c ++ d)
four o p q r s a b c d e f g h = one_more o r s (a ++ b ++ c) d (one_more o q r (a ++ b) c (one_more o p q a b e f) g) h

more_put : (o p q x b : List ℕ) → p ≡ o ++ x → q ≡ p ++ b → q ≡ o ++ (x ++ b)
more_put o p q x b e f = f ∙ ap (λ z. z ++ b) e ∙ append_assoc o x b

-- five texts put one after another
pub five_put : (o p q r s t a b c d e : List ℕ) → p ≡ o ++ a → q ≡ p ++ b → r ≡ q ++ c → s ≡ r ++ d → t ≡ s ++ e → t ≡ o ++ (a ++ b ++ c ++ d ++ e)
five_put o p q r s t a b c d e f g h i j = more_put o s t (a ++ b ++ c ++ d) e (more_put o r s (a ++ b ++ c) d (more_put o q r (a ++ b) c (more_put o p q a b f g) h) i) j

pub span_put : (o p : List ℕ) (x from y to : ℤ) (s l : List ℕ) → x ≡ from → y ≡ to
    → p ≡ o ++ (signed_decimal x ++ (s ++ (signed_decimal y ++ (l ++ [])))) → p ≡ o ++ (signed_decimal from ++ s ++ signed_decimal to ++ l)
span_put o p x from y to s l h k e = rw (sym h, sym k) (e ∙ simp (append_assoc, append-nil))

-- an item of a list is put, and those after it are still to be put
abbrev PutsOn : {X : Type 0} → (List X → List ℕ) → (X → List ℕ) → Type 0
PutsOn {X} text item = (xs : List X) (i : ℕ) (d : X) (o p total : List ℕ)
    → i < length xs → p ≡ o ++ item (get_or xs i d) → o ++ text (drop i xs) ≡ total → p ++ text (drop (i + 1) xs) ≡ total

puts_on : {X : Type 0} (text : List X → List ℕ) (item : X → List ℕ) → ((x : X) (ys : List X) → text (x ∷ ys) ≡ item x ++ text ys) → PutsOn text item
puts_on text item law xs i d o p total h f g =
    let rest = text (drop (i + 1) xs) in
    let all : text (drop i xs) ≡ item (get_or xs i d) ++ rest = rw (add-one, drop-cons xs i d h) (law (get_or xs i d) (drop (suc i) xs)) in
    ap (λ y. y ++ rest) f ∙ append_assoc o (item (get_or xs i d)) rest ∙ ap (λ y. o ++ y) (sym all) ∙ g

pub put_lines : {X : Type 0} (f : X → List ℕ) → PutsOn (flat_map f) f
put_lines f = puts_on (flat_map f) f (λ x ys. refl)

pub put_fields : {X : Type 0} (f : X → List (List ℕ)) → PutsOn (λ (ys : List X). spaced (flat_map f ys)) (λ (x : X). spaced (f x))
put_fields {X} f = puts_on (λ (ys : List X). spaced (flat_map f ys)) (λ (x : X). spaced (f x)) (λ x ys. spaced-append (f x) (flat_map f ys))

pub put_each : {X : Type 0} (f : X → List ℕ) → PutsOn (λ (ys : List X). spaced (map f ys)) (λ (x : X). spaced (f x ∷ []))
put_each {X} f = puts_on (λ (ys : List X). spaced (map f ys)) (λ (x : X). spaced (f x ∷ [])) (λ x ys. spaced-append (f x ∷ []) (map f ys))

-- a line is its first field and the others, each behind a space
pub line-spaced : (w : List ℕ) (ws : List (List ℕ)) → join_with_byte 32 (w ∷ ws) ≡ w ++ spaced ws
line-spaced w [] = sym (append-nil w)
line-spaced w (v ∷ ws) = ap (λ x. w ++ (32 ∷ x)) (line-spaced v ws)

-- the first field, the others and the line feed
pub line_put : (o p q r w : List ℕ) (ws : List (List ℕ)) → p ≡ o ++ w → q ≡ p ++ spaced ws → r ≡ q ++ 10 ∷ [] → r ≡ o ++ line_text (w ∷ ws)
line_put o p q r w ws e f g =
    g ∙ ap (λ x. x ++ 10 ∷ []) (f ∙ ap (λ x. x ++ spaced ws) e ∙ append_assoc o w (spaced ws) ∙ ap (λ x. o ++ x) (sym (line-spaced w ws))) ∙ append_assoc o (join_with_byte 32 (w ∷ ws)) (10 ∷ [])

pub ruleset line_rules = (line_put, line-spaced)

pub arc_line : (a b : List ℕ) → line_text (codes "arc" ∷ a ∷ b ∷ []) ≡ codes "arc " ++ (a ++ (32 ∷ (b ++ 10 ∷ [])))
arc_line a b = ap (λ x. codes "arc " ++ x) (append_assoc a (32 ∷ b) (10 ∷ []))

-- the lines of one job, and those of the jobs after it
pub jobs_next : (c : Class) (names : List (List ℕ)) (jobs : List Job) (at : ℕ) (job : Job) → at < length names → at < length jobs → job ≡ get_or jobs at job
    → jobs_text c (drop at names) (drop at jobs) ≡ job_text c (get_or names at []) job ++ jobs_text c (drop (at + 1) names) (drop (at + 1) jobs)
jobs_next c names jobs at job h k e =
    let n : drop at names ≡ get_or names at [] ∷ drop (at + 1) names = rw (add-one, drop-cons names at [] h) refl in
    let j : drop at jobs ≡ job ∷ drop (at + 1) jobs = rw (add-one, drop-cons jobs at job k) (ap (λ (x : Job). x ∷ drop (suc at) jobs) (sym e)) in
    rw (n, j) refl

pub jobs_step : (c : Class) (names : List (List ℕ)) (jobs : List Job) (at : ℕ) (job : Job) (o p total : List ℕ) → at < length names → at < length jobs → job ≡ get_or jobs at job
    → p ≡ o ++ job_text c (get_or names at []) job → o ++ jobs_text c (drop at names) (drop at jobs) ≡ total → p ++ jobs_text c (drop (at + 1) names) (drop (at + 1) jobs) ≡ total
jobs_step c names jobs at job o p total h k e f g =
    let rest = jobs_text c (drop (at + 1) names) (drop (at + 1) jobs) in
    ap (λ x. x ++ rest) f ∙ append_assoc o (job_text c (get_or names at []) job) rest ∙ ap (λ x. o ++ x) (sym (jobs_next c names jobs at job h k e)) ∙ g

pub fraction_spelled : (x : Frac) → IsFractionText x (fraction_text x)
fraction_spelled x = by (int_eq x.den (pos 1)) refl
  where
    by : (b : Bool) → int_eq x.den (pos 1) ≡ b → IsFractionText x (signed_decimal x.num ++ (if b then [] else codes "/" ++ signed_decimal x.den))
    by true e = alone ((Decides-int_eq x.den (pos 1)).0 e) (append-nil (signed_decimal x.num))
    by false e = over (sym (append_assoc (signed_decimal x.num) (codes "/") (signed_decimal x.den)))

-- what is printed is a text of the schedule
pub printed : (names : List (List ℕ)) (s : Schedule) (x : Frac) (b : List ℕ) → IsStated names s x → b ≡ schedule_text names s x → IsScheduleText b names s x
unfolding schedule_text
printed names s x b h e = record { spelling = fraction_text x; spells = fraction_spelled x; text = e; stated = h }
