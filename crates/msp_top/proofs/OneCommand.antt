-- Words ask for one thing at most.
use Rattle.std.proofs.Common.{◌≡◌, ℕ, List, [], ◌∷◌, Option, Some, None, ℤ, pos, refl, sym, ap, ◌∙◌, subst}
use Rattle.std.specs.List.{AllZip}
use Rattle.msp_class.specs.declared.class.Class.{Class}
use Rattle.msp_name.specs.Names.{NameOf}
use Rattle.msp_name.proofs.NameLemmas.{NameOf-determined}
use Rattle.msp_text.specs.Numbers.{number_of}
use Rattle.msp_top.specs.declared.command.Command.{Command}
use Rattle.msp_top.specs.declared.command.Command.TheVariants.{Solve, Certify, Check, Accept, Answer}
use Rattle.msp_top.specs.declared.command.Question.TheVariants.{Label, Frontier, Why}
use Rattle.msp_top.specs.declared.command.Trial.{Trial}
use Rattle.msp_top.specs.Commands.{Asks, AsksForRows, AsksForTrial, IsNameWord}
use Rattle.msp_top.proofs.WordLemmas.{first_word, asks_first, cons_heads, cons_tails, not_word, solve_word, frontier_word, certify_word, accept_word, check_word, rows_word, trial_word}
use Rattle.msp_top.proofs.TrialWords.{same_words, trial_first}

classes_once : (names : List (List ℕ)) (a b : List Class) → AllZip IsNameWord names a → AllZip IsNameWord names b → a ≡ b
classes_once [] [] [] p q = refl
classes_once [] [] (d ∷ b) p q = absurd q
classes_once [] (c ∷ a) b p q = absurd p
classes_once (w ∷ names) [] b p q = absurd p
classes_once (w ∷ names) (c ∷ a) [] p q = absurd q
classes_once (w ∷ names) (c ∷ a) (d ∷ b) p q = ap (λ e. e ∷ a) (NameOf-determined w c d p.0.named q.0.named) ∙ ap (λ l. d ∷ l) (classes_once names a b p.1 q.1)

at_once : (words : List (List ℕ)) (a b : Option Class) → Asks words (Solve a) → Asks words (Solve b) → a ≡ b
at_once words None None p q = refl
at_once words None (Some d) p (name, q, named) = cc
at_once words (Some c) None (name, p, named) q = cc
at_once words (Some c) (Some d) (m, p, mc) (n, q, nd) =
    let same : m ≡ n = cc in
    ap Some (NameOf-determined n c d (subst (λ w. NameOf w c) same mc.named) nd.named)

why_once : (words : List (List ℕ)) (c d : Class) → Asks words (Answer (Why c)) → Asks words (Answer (Why d)) → c ≡ d
why_once words c d (m, p, mc) (n, q, nd) =
    let same : m ≡ n = cc in
    NameOf-determined n c d (subst (λ w. NameOf w c) same mc.named) nd.named

same_first : (words : List (List ℕ)) (a b : Command) → Asks words a → Asks words b → first_word a ≡ first_word b
same_first words a b p q = cons_heads (sym (asks_first words a p).1 ∙ (asks_first words b q).1)

pub asks_once : (words : List (List ℕ)) (a b : Command) → Asks words a → Asks words b → a ≡ b
asks_once words (Solve a) (Solve b) p q = ap Solve (at_once words a b p q)
asks_once words (Answer (Label a)) (Answer (Label b)) p q =
    ap (λ classes. Answer (Label classes)) (classes_once q.0 a b (subst (λ names. AllZip IsNameWord names a) (cons_tails (sym p.1 ∙ q.1)) p.2) q.2)
asks_once words (Answer Frontier) (Answer Frontier) p q = refl
asks_once words (Answer (Why a)) (Answer (Why b)) p q = ap (λ class. Answer (Why class)) (why_once words a b p q)
asks_once words Certify Certify p q = refl
asks_once words Check Check p q = refl
asks_once words Accept Accept p q = refl
asks_once words (Solve a) (Answer Frontier) p q = not_word solve_word frontier_word refl (same_first words (Solve a) (Answer Frontier) p q)
asks_once words Certify (Answer Frontier) p q = not_word certify_word frontier_word refl (same_first words Certify (Answer Frontier) p q)
asks_once words Check (Answer Frontier) p q = not_word check_word frontier_word refl (same_first words Check (Answer Frontier) p q)
asks_once words Accept (Answer Frontier) p q = not_word accept_word frontier_word refl (same_first words Accept (Answer Frontier) p q)
asks_once words a b p q = not_word (first_word a) (first_word b) refl (same_first words a b p q)

-- words that ask for the table of rows ask for no command
pub rows_are_no_command : {X : Type 0} (words : List (List ℕ)) (command : Command) → AsksForRows words → Asks words command → X
rows_are_no_command words command h asked = by_command command (cons_heads (sym h ∙ (asks_first words command asked).1))
  where
    by_command : {X : Type 0} (command : Command) → rows_word ≡ first_word command → X
    by_command (Answer Frontier) e = not_word rows_word frontier_word refl e
    by_command command e = not_word rows_word (first_word command) refl e

-- words that ask for a trial ask for nothing else
pub trial_is_no_command : {X : Type 0} (words : List (List ℕ)) (trial : Trial) (command : Command) → AsksForTrial words trial → Asks words command → X
trial_is_no_command words trial command h asked = trial_first command (cons_heads (sym h.form ∙ (asks_first words command asked).1))

pub trial_is_no_rows : {X : Type 0} (words : List (List ℕ)) (trial : Trial) → AsksForTrial words trial → AsksForRows words → X
trial_is_no_rows words trial h rows = not_word trial_word rows_word refl (cons_heads (sym h.form ∙ rows))

-- and for one trial
abbrev trial_with : Class → ℕ → ℕ → Trial
trial_with class jobs seed = record { class = class; jobs = jobs; seed = seed }

same_trial : (a b : Trial) → a.class ≡ b.class → a.jobs ≡ b.jobs → a.seed ≡ b.seed → a ≡ b
same_trial a b p q r = ap (λ c. trial_with c a.jobs a.seed) p ∙ ap (λ n. trial_with b.class n a.seed) q ∙ ap (λ n. trial_with b.class b.jobs n) r

number_once : (o : Option ℤ) (m n : ℕ) → o ≡ Some (pos m) → o ≡ Some (pos n) → m ≡ n
number_once o m n p q = cc

pub trial_once : (words : List (List ℕ)) (a b : Trial) → AsksForTrial words a → AsksForTrial words b → a ≡ b
trial_once words a b p q =
    let e = same_words (sym p.form ∙ q.form) in
    same_trial a b
    (NameOf-determined p.name a.class b.class p.class.named (subst (λ w. NameOf w b.class) e.0 q.class.named))
    (number_once (number_of p.count) a.jobs b.jobs p.jobs.spelled (subst (λ w. number_of w ≡ Some (pos b.jobs)) e.1 q.jobs.spelled))
    (number_once (number_of p.start) a.seed b.seed p.seed.spelled (subst (λ w. number_of w ≡ Some (pos b.seed)) e.2 q.seed.spelled))
