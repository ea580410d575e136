-- The words after `trial`.
use Rattle.std.proofs.Common.{◌≡◌, ℕ, ◌<◌, ◌≤◌, Bool, true, false, ◌&&◌, nat_le, List, [], ◌∷◌, length, get_or, map, Option, Some, None, Result, Err, ℤ, pos, if◌then◌else◌}
use Rattle.std.proofs.Common.{refl, sym, ap, ◌∙◌, subst, arith}
use Rattle.std.proofs.lemmas.Bool.{lt-ltb, le-leb, leb-true}
use Rattle.msp_class.specs.declared.list.TheConstants.{PLACES}
use Rattle.msp_text.specs.Numbers.{number_of}
use Rattle.msp_class.specs.declared.sizes.TheConstants.{MOST_JOBS}
use Rattle.msp_top.specs.declared.command.TheConstants.{GREATEST_SEED}
use Rattle.msp_top.specs.declared.command.Command.{Command}
use Rattle.msp_top.specs.declared.command.Command.TheVariants.{Answer}
use Rattle.msp_top.specs.declared.command.Question.TheVariants.{Frontier}
use Rattle.msp_top.specs.declared.command.Trial.{Trial}
use Rattle.msp_top.specs.declared.words.Misfit.{Misfit}
use Rattle.msp_top.specs.Commands.{IsNameWord, IsNumberWord, Asks, AsksForTrial, Misfits}
use Rattle.msp_top.specs.Usage.{name_then, number_within, number_then, text_of_number, misfit_text}
use Rattle.msp_top.specs.Words.{ReadsName, ReadsNumber, ReadsTrial}
use Rattle.msp_top.proofs.WordLemmas.{trial_word, rows_word, first_word, asks_first, cons_heads, cons_tails, not_word}

-- ---- numbers in a range
within_range : (least greatest n m : ℕ) (a b : Bool)
    → nat_le least n ≡ a → nat_le n greatest ≡ b → (if a && b then Some n else None) ≡ Some m → (Some (pos n) ≡ Some (pos m)) × (least ≤ m) × (m ≤ greatest)
within_range least greatest n m false b p q e = absurd cc
within_range least greatest n m true false p q e = absurd cc
within_range least greatest n m true true p q e =
    let same : n ≡ m = cc in
    (ap (λ k. Some (pos k)) same, subst (λ k. least ≤ k) same (leb-true least n p), subst (λ k. k ≤ greatest) same (leb-true n greatest q))

within_found : (least greatest : ℕ) (o : Option ℤ) (m : ℕ) → number_within least greatest o ≡ Some m → (o ≡ Some (pos m)) × (least ≤ m) × (m ≤ greatest)
within_found least greatest (Some (pos n)) m e = within_range least greatest n m (nat_le least n) (nat_le n greatest) refl refl e
within_found least greatest _ m e = absurd cc

within_there : (least greatest m : ℕ) → least ≤ m → m ≤ greatest → number_within least greatest (Some (pos m)) ≡ Some m
within_there least greatest m low high =
    ap (λ b. if b && nat_le m greatest then Some m else None) (le-leb least m low) ∙ ap (λ b. if b then Some m else None) (le-leb m greatest high)

pub number_word : (least greatest : ℕ) (word bytes : List ℕ) (r : Option ℕ) (m : ℕ)
    → length word < PLACES → bytes ≡ word → r ≡ number_within least greatest (number_of bytes) → r ≡ Some m → IsNumberWord least greatest word m
number_word least greatest word bytes r m short e reads is =
    let found = within_found least greatest (number_of bytes) m (sym reads ∙ is) in
    record { short = short; spelled = ap number_of (sym e) ∙ found.0; low = found.1; high = found.2 }

pub no_number_word : (least greatest : ℕ) (word bytes : List ℕ) (r : Option ℕ)
    → bytes ≡ word → r ≡ number_within least greatest (number_of bytes) → r ≡ None → (m : ℕ) → ¬ IsNumberWord least greatest word m
no_number_word least greatest word bytes r e reads is m h =
    let there : number_within least greatest (number_of bytes) ≡ Some m =
    ap (λ w. number_within least greatest (number_of w)) e ∙ ap (number_within least greatest) h.spelled ∙ within_there least greatest m h.low h.high in
    let none : None ≡ Some m = sym is ∙ reads ∙ there in absurd cc

-- the text of a word that is to be a number, where it is short
pub number_then-short : (place least greatest : ℕ) (word bytes later : List ℕ) (r : Option ℕ) → length word < PLACES → bytes ≡ word
    → r ≡ number_within least greatest (number_of bytes) → number_then place least greatest word later ≡ text_of_number place least greatest r later
number_then-short place least greatest word bytes later r short e reads =
    ap (λ b. if b then text_of_number place least greatest (number_within least greatest (number_of word)) later else misfit_text) (lt-ltb (length word) PLACES short)
    ∙ ap (λ w. text_of_number place least greatest (number_within least greatest (number_of w)) later) (sym e)
    ∙ ap (λ o. text_of_number place least greatest o later) (sym reads)

-- ---- the three words
pub same_words : {a b c x y z : List ℕ} → trial_word ∷ a ∷ b ∷ c ∷ [] ≡ trial_word ∷ x ∷ y ∷ z ∷ [] → (x ≡ a) × (y ≡ b) × (z ≡ c)
same_words e = (sym (cons_heads (cons_tails e)), sym (cons_heads (cons_tails (cons_tails e))), sym (cons_heads (cons_tails (cons_tails (cons_tails e)))))

pub refuses_name : (name count start : List ℕ) (misfit : Misfit) → ReadsName name 2 (Err misfit) → ReadsTrial (name ∷ count ∷ start ∷ []) (Err misfit)
refuses_name name count start misfit (text, none) =
    (no_trial, text (number_then 3 1 MOST_JOBS count (number_then 4 0 GREATEST_SEED start misfit_text)))
  where
    no_trial : (trial : Trial) → ¬ AsksForTrial (trial_word ∷ name ∷ count ∷ start ∷ []) trial
    no_trial trial h = none trial.class (subst (λ w. IsNameWord w trial.class) (same_words h.form).0 h.class)

pub refuses_count : (name count start : List ℕ) (misfit : Misfit) → ((later : List ℕ) → name_then 2 name later ≡ later)
    → ReadsNumber 1 MOST_JOBS count 3 (Err misfit) → ReadsTrial (name ∷ count ∷ start ∷ []) (Err misfit)
refuses_count name count start misfit named (text, none) =
    let seeds : List ℕ = number_then 4 0 GREATEST_SEED start misfit_text in
    (no_trial, text seeds ∙ sym (named (number_then 3 1 MOST_JOBS count seeds)))
  where
    no_trial : (trial : Trial) → ¬ AsksForTrial (trial_word ∷ name ∷ count ∷ start ∷ []) trial
    no_trial trial h = none trial.jobs (subst (λ w. IsNumberWord 1 MOST_JOBS w trial.jobs) (same_words h.form).1 h.jobs)

pub refuses_start : (name count start : List ℕ) (misfit : Misfit) → ((later : List ℕ) → name_then 2 name later ≡ later)
    → ((later : List ℕ) → number_then 3 1 MOST_JOBS count later ≡ later) → ReadsNumber 0 GREATEST_SEED start 4 (Err misfit) → ReadsTrial (name ∷ count ∷ start ∷ []) (Err misfit)
refuses_start name count start misfit named counted (text, none) =
    let seeds : List ℕ = number_then 4 0 GREATEST_SEED start misfit_text in
    (no_trial, text misfit_text ∙ sym (counted seeds) ∙ sym (named (number_then 3 1 MOST_JOBS count seeds)))
  where
    no_trial : (trial : Trial) → ¬ AsksForTrial (trial_word ∷ name ∷ count ∷ start ∷ []) trial
    no_trial trial h = none trial.seed (subst (λ w. IsNumberWord 0 GREATEST_SEED w trial.seed) (same_words h.form).2 h.seed)

pub reads_three : {X : Type 0} (f : X → List ℕ) (xs : List X) (x y z : X) (name count start : List ℕ) (r : Result Trial Misfit)
    → length xs ≡ 3 → x ≡ get_or xs 0 x → y ≡ get_or xs 1 y → z ≡ get_or xs 2 z → name ≡ f x → count ≡ f y → start ≡ f z →
    ReadsTrial (name ∷ count ∷ start ∷ []) r → ReadsTrial (map f xs) r
reads_three f (a ∷ b ∷ c ∷ []) x y z name count start r l i j k p q s h =
    subst (λ ws. ReadsTrial ws r) (ap (λ w. w ∷ count ∷ start ∷ []) (p ∙ ap f i) ∙ ap (λ w. f a ∷ w ∷ start ∷ []) (q ∙ ap f j) ∙ ap (λ w. f a ∷ f b ∷ w ∷ []) (s ∙ ap f k)) h
reads_three f _ x y z name count start r l i j k p q s h = absurd (omega (arith, l))

-- ---- what the words after `trial` are decides what all words are
-- no command begins with the word `trial`
pub trial_first : {X : Type 0} (command : Command) → trial_word ≡ first_word command → X
trial_first (Answer Frontier) e = not_word trial_word (first_word (Answer Frontier)) refl e
trial_first command e = not_word trial_word (first_word command) refl e

pub reads_trial_misfit : (words : List (List ℕ)) → ((trial : Trial) → ¬ AsksForTrial (trial_word ∷ words) trial) → Misfits (trial_word ∷ words)
reads_trial_misfit words none = record { no_command = no_command; no_rows = λ h. not_word trial_word rows_word refl (cons_heads h); no_trial = none }
  where
    no_command : (command : Command) → ¬ Asks (trial_word ∷ words) command
    no_command command h = trial_first command (cons_heads (asks_first (trial_word ∷ words) command h).1)
