-- What the words after the first are decides what all words are.
use Rattle.std.proofs.Common.{◌≡◌, ℕ, ◌<◌, ◌-◌, true, false, List, [], ◌∷◌, length, get_or, take, drop, map, Option, Some, None, Result, Ok, Err}
use Rattle.std.proofs.Common.{if◌then◌else◌, refl, sym, ap, ◌∙◌, subst, codes, bytes_eq, arith}
use Rattle.std.specs.List.{AllZip}
use Rattle.std.proofs.lemmas.List.{take_all, length-drop}
use Rattle.std.proofs.lemmas.Slice.Eq.{bytes_eq-Decides}
use Rattle.msp_class.specs.declared.class.Class.{Class}
use Rattle.msp_top.specs.declared.command.Command.{Command}
use Rattle.msp_top.specs.declared.command.Command.TheVariants.{Solve, Certify, Check, Accept, Answer}
use Rattle.msp_top.specs.declared.command.Question.TheVariants.{Label, Frontier, Why}
use Rattle.msp_top.specs.declared.command.Request.{Request}
use Rattle.msp_top.specs.declared.words.Misfit.{Misfit}
use Rattle.msp_top.specs.Commands.{IsNameWord, Asks, Misfits}
use Rattle.msp_top.specs.Usage.{names_text, misfit_text, option_text, later_text}
use Rattle.msp_top.specs.Words.{AsksForLabels, ReadsWords, ReadsName, ReadsOneName, ReadsOption, AreNoneAlone, ReadsAlone}

-- ---- the words after the first
abbrev pub label_word : List ℕ
label_word = codes "label"

abbrev pub why_word : List ℕ
why_word = codes "why"

abbrev pub solve_word : List ℕ
solve_word = codes "solve"

abbrev pub at_word : List ℕ
at_word = codes "--at"

abbrev pub frontier_word : List ℕ
frontier_word = codes "frontier"

abbrev pub certify_word : List ℕ
certify_word = codes "certify"

abbrev pub check_word : List ℕ
check_word = codes "check"

abbrev pub accept_word : List ℕ
accept_word = codes "accept"

abbrev pub trial_word : List ℕ
trial_word = codes "trial"

abbrev pub rows_word : List ℕ
rows_word = codes "rows"

pub cons_heads : {A : Type 0} {a b : A} {xs ys : List A} → a ∷ xs ≡ b ∷ ys → a ≡ b
cons_heads e = cc

pub cons_tails : {A : Type 0} {a b : A} {xs ys : List A} → a ∷ xs ≡ b ∷ ys → xs ≡ ys
cons_tails e = cc

pub differ : {X : Type 0} → false ≡ true → X
differ e = cc

pub not_word : {X : Type 0} (word other : List ℕ) → bytes_eq word other ≡ false → word ≡ other → X
not_word word other e q = differ (sym e ∙ (bytes_eq-Decides word other).1 q)

-- the word with which a command begins
abbrev pub first_word : Command → List ℕ
first_word (Solve at) = solve_word
first_word Certify = certify_word
first_word Check = check_word
first_word Accept = accept_word
first_word (Answer (Label classes)) = label_word
first_word (Answer Frontier) = frontier_word
first_word (Answer (Why class)) = why_word

pub asks_first : (words : List (List ℕ)) (command : Command) → Asks words command → (later : List (List ℕ)) × (words ≡ first_word command ∷ later)
asks_first words (Solve (Some class)) (name, h, named) = (codes "--at" ∷ name ∷ [], h)
asks_first words (Answer (Label classes)) (names, h, zip) = (names, h)
asks_first words (Answer (Why class)) (name, h, named) = (name ∷ [], h)
asks_first words _ h = ([], h)

begins : (word : List ℕ) (words : List (List ℕ)) (command : Command) → Asks (word ∷ words) command → word ≡ first_word command
begins word words command h = cons_heads (asks_first (word ∷ words) command h).1

first_misfit : (first : List ℕ) (words : List (List ℕ)) → bytes_eq first rows_word ≡ false → bytes_eq first trial_word ≡ false
    → ((command : Command) → ¬ Asks (first ∷ words) command) → Misfits (first ∷ words)
first_misfit first words rows trial none = record {
  no_command = none;
  no_rows = λ h. not_word first rows_word rows (cons_heads h);
  no_trial = λ t h. not_word first trial_word trial (cons_heads h.form);
}

pub reads_label_misfit : (names : List (List ℕ)) → ((classes : List Class) → ¬ AllZip IsNameWord names classes) → Misfits (label_word ∷ names)
reads_label_misfit names none = first_misfit label_word names refl refl no_command
  where
    no_command : (command : Command) → ¬ Asks (label_word ∷ names) command
    no_command (Answer (Label classes)) (others, h, zip) = none classes (subst (λ ws. AllZip IsNameWord ws classes) (sym (cons_tails h)) zip)
    no_command command h = not_word label_word (first_word command) refl (begins _ _ command h)

pub reads_why_misfit : (words : List (List ℕ)) → ((name : List ℕ) (class : Class) → words ≡ name ∷ [] → ¬ IsNameWord name class) → Misfits (why_word ∷ words)
reads_why_misfit words none = first_misfit why_word words refl refl no_command
  where
    no_command : (command : Command) → ¬ Asks (why_word ∷ words) command
    no_command (Answer (Why class)) (name, h, named) = none name class (cons_tails h) named
    no_command command h = not_word why_word (first_word command) refl (begins _ _ command h)

pub reads_solve_misfit : (options : List (List ℕ)) → ((at : Option Class) → ¬ Asks (solve_word ∷ options) (Solve at)) → Misfits (solve_word ∷ options)
reads_solve_misfit options none = first_misfit solve_word options refl refl no_command
  where
    no_command : (command : Command) → ¬ Asks (solve_word ∷ options) command
    no_command (Solve at) h = none at h
    no_command (Answer Frontier) h = not_word solve_word frontier_word refl (cons_heads h)
    no_command command h = not_word solve_word (first_word command) refl (begins _ _ command h)

pub reads_label : (word : List ℕ) (names : List (List ℕ)) → word ≡ label_word → (classes : List Class) × AllZip IsNameWord names classes → AsksForLabels (word ∷ names)
reads_label word names e (classes, h) = (classes, (names, ap (λ w. w ∷ names) e, h))

pub reads_why : (word : List ℕ) (words : List (List ℕ)) (class : Class) → word ≡ why_word → ReadsOneName words (Ok class) → Asks (word ∷ words) (Answer (Why class))
reads_why word words class e (name, h, named) = (name, ap (λ w. w ∷ words) e ∙ ap (λ ws. why_word ∷ ws) h, named)

-- a first word with no words behind it
pub alone : {X : Type 0} (f : X → List ℕ) (xs : List X) (word name : List ℕ) → (word ≡ name) × (xs ≡ []) → word ∷ map f xs ≡ name ∷ []
alone f xs word name (e, none) = ap (λ w. w ∷ map f xs) e ∙ ap (λ ys. name ∷ map f ys) none

map_none : {X Y : Type 0} (f : X → Y) (xs : List X) → map f xs ≡ [] → xs ≡ []
map_none f [] e = refl
map_none f (x ∷ xs) e = cc

-- a first word that is none of those that stand alone, or that has words behind it
pub none_alone : {X : Type 0} (f : X → List ℕ) (word : List ℕ) (xs : List X) → ¬ ((word ≡ frontier_word) × (xs ≡ [])) → ¬ ((word ≡ certify_word) × (xs ≡ []))
    → ¬ ((word ≡ check_word) × (xs ≡ [])) → ¬ ((word ≡ accept_word) × (xs ≡ [])) → ¬ ((word ≡ rows_word) × (xs ≡ [])) → AreNoneAlone (word ∷ map f xs)
none_alone f word xs frontier certify check accept rows = record {
  no_frontier = λ h. frontier (cons_heads h, map_none f xs (cons_tails h));
  no_certify = λ h. certify (cons_heads h, map_none f xs (cons_tails h));
  no_check = λ h. check (cons_heads h, map_none f xs (cons_tails h));
  no_accept = λ h. accept (cons_heads h, map_none f xs (cons_tails h));
  no_rows = λ h. rows (cons_heads h, map_none f xs (cons_tails h));
}

-- words that do not stand alone, and of which the first is none of those that other words follow
refuses_all : (word : List ℕ) (words : List (List ℕ)) (misfit : Misfit)
    → bytes_eq word label_word ≡ false → bytes_eq word why_word ≡ false → bytes_eq word solve_word ≡ false → bytes_eq word trial_word ≡ false →
    ReadsAlone (word ∷ words) (Err misfit) → ReadsWords (word ∷ words) (Err misfit)
refuses_all word words misfit label why_not solve trial_not (none, form) = (
  record {
    no_command = no_command;
    no_rows = none.no_rows;
    no_trial = λ trial h. not_word word trial_word trial_not (cons_heads h.form);
  },
  form ∙ sym text,
)
  where
    no_command : (command : Command) → ¬ Asks (word ∷ words) command
    no_command (Solve at) h = not_word word solve_word solve (begins _ _ (Solve at) h)
    no_command Certify h = none.no_certify h
    no_command Check h = none.no_check h
    no_command Accept h = none.no_accept h
    no_command (Answer (Label classes)) (names, h, zip) = not_word word label_word label (cons_heads h)
    no_command (Answer Frontier) h = none.no_frontier h
    no_command (Answer (Why class)) (name, h, named) = not_word word why_word why_not (cons_heads h)

    text : later_text word words ≡ misfit_text
    text = rw (label, why_not, solve, trial_not) refl

pub reads_all : (word : List ℕ) (words : List (List ℕ)) (r : Result Request Misfit)
    → bytes_eq word label_word ≡ false → bytes_eq word why_word ≡ false → bytes_eq word solve_word ≡ false → bytes_eq word trial_word ≡ false →
    ReadsAlone (word ∷ words) r → ReadsWords (word ∷ words) r
reads_all word words (Ok request) label why_not solve trial_not h = h
reads_all word words (Err misfit) label why_not solve trial_not h = refuses_all word words misfit label why_not solve trial_not h

tail_of : {X : Type 0} (f : X → List ℕ) (xs : List X) (x : X) → 0 < length xs → x ≡ get_or xs 0 x → map f xs ≡ f x ∷ map f (drop 1 xs)
tail_of f [] x l is = absurd (omega (arith, l))
tail_of f (y ∷ ys) x l is = ap (λ z. f z ∷ map f ys) (sym is)

-- the words after the first, as a slice gives them
pub rest_part : {X : Type 0} (d xs : List X) → d ≡ xs → take (length d - 1) (drop 1 d) ≡ drop 1 xs
rest_part d xs e = take_all (length d - 1) (drop 1 d) (omega (arith, length-drop 1 d)) ∙ ap (drop 1) e

pub reads_part : {X : Type 0} (f : X → List ℕ) (xs part : List X) (x : X) (word : List ℕ) (r : Result Request Misfit)
    → 0 < length xs → x ≡ get_or xs 0 x → word ≡ f x → part ≡ drop 1 xs → ReadsWords (word ∷ map f part) r → ReadsWords (map f xs) r
reads_part f xs part x word r l is e cut h =
    subst (λ ws. ReadsWords ws r) (sym (tail_of f xs x l is)) (subst (λ p. ReadsWords (f x ∷ map f p) r) cut (subst (λ w. ReadsWords (w ∷ map f part) r) e h))

-- ---- the words after `why`
one_item : {X : Type 0} (f : X → List ℕ) (xs : List X) (x : X) (word : List ℕ) → length xs ≡ 1 → x ≡ get_or xs 0 x → word ≡ f x → map f xs ≡ word ∷ []
one_item f (a ∷ []) x word l is e = ap (λ w. w ∷ []) (ap f (sym is) ∙ sym e)
one_item f _ x word l is e = absurd (omega (arith, l))

pub reads_one : {X : Type 0} (f : X → List ℕ) (xs : List X) (x : X) (word : List ℕ) (r : Result Class Misfit)
    → length xs ≡ 1 → x ≡ get_or xs 0 x → word ≡ f x → ReadsName word 2 r → ReadsOneName (map f xs) r
reads_one f xs x word r l is e h = let P : List (List ℕ) → Type 0 = λ ws. ReadsOneName ws r in subst P (sym (one_item f xs x word l is e)) (by_result r h)
  where
    by_result : (r : Result Class Misfit) → ReadsName word 2 r → ReadsOneName (word ∷ []) r
    by_result (Ok class) named = (word, refl, named)
    by_result (Err misfit) (text, none) = (λ name class e named. none class (subst (λ w. IsNameWord w class) (sym (cons_heads e)) named), text misfit_text)

-- ---- the words after `solve`
option_text-at : (option name : List ℕ) → option ≡ at_word → option_text (option ∷ name ∷ []) ≡ names_text 3 (name ∷ [])
option_text-at option name e = ap (λ b. if b then names_text 3 (name ∷ []) else misfit_text) ((bytes_eq-Decides option at_word).1 e)

-- the class after `--at`
abbrev pub at_class : Result Class Misfit → Result (Option Class) Misfit
at_class (Ok class) = Ok (Some class)
at_class (Err misfit) = Err misfit

reads_at : (option name : List ℕ) (r : Result Class Misfit) → option ≡ at_word → ReadsName name 3 r → ReadsOption (option ∷ name ∷ []) (at_class r)
reads_at option name (Ok class) e named = (name, ap (λ w. solve_word ∷ w ∷ name ∷ []) e, named)
reads_at option name (Err misfit) e (text, none) = (no_class, text misfit_text ∙ sym (option_text-at option name e))
  where
    no_class : (at : Option Class) → ¬ Asks (solve_word ∷ option ∷ name ∷ []) (Solve at)
    no_class None h = cc
    no_class (Some class) (other, h, named) = none class (subst (λ w. IsNameWord w class) (sym (cons_heads (cons_tails (cons_tails h)))) named)

pub reads_at_part : {X : Type 0} (f : X → List ℕ) (xs : List X) (x y : X) (option name : List ℕ) (r : Result Class Misfit) → length xs ≡ 2
    → x ≡ get_or xs 0 x → y ≡ get_or xs 1 y → option ≡ f x → name ≡ f y → option ≡ at_word → ReadsName name 3 r → ReadsOption (map f xs) (at_class r)
reads_at_part f (a ∷ b ∷ []) x y option name r l first second p q e h =
    subst (λ ws. ReadsOption ws (at_class r)) (ap (λ w. w ∷ name ∷ []) (p ∙ ap f first) ∙ ap (λ w. f a ∷ w ∷ []) (q ∙ ap f second)) (reads_at option name r e h)
reads_at_part f _ x y option name r l first second p q e h = absurd (omega (arith, l))
