-- The goals of `read_after` that are proved by lemmas.
use Rattle.std.proofs.Common.{◌∙◌, sym, string_bytes, map, ◌∷◌, subst}
use Rattle.msp_top.specs.declared.command.Command.TheVariants.{Solve}
use Rattle.msp_top.specs.Commands.{Asks}
use Rattle.std.proofs.lemmas.Slice.Eq.{bytes_eq-Decides}
use Rattle.msp_top.proofs.Exits.{failed}
use Rattle.msp_top.proofs.WordLemmas.{label_word, why_word, solve_word, trial_word, reads_label, reads_label_misfit, reads_why, reads_why_misfit, reads_solve_misfit, reads_all}
use Rattle.msp_top.proofs.TrialWords.{reads_trial_misfit}
use Rattle.msp_top.proofs.words.read_after.Goals as goal

pub returns-then-eq : goal.returns-then-eq
returns-then-eq c = reads_label c.args.word.now (map string_bytes c.args.words.now) ((bytes_eq-Decides _ _).0 (sym c.eq.ensures ∙ c.if-eq.true)) c.in_ok-check_names.ensures

pub returns-in_err-check_names : goal.returns-in_err-check_names
returns-in_err-check_names c =
    rw (failed _ c.from_residual.ensures.1, (bytes_eq-Decides c.args.word.now label_word).0 (sym c.eq.ensures ∙ c.if-eq.true))
    (reads_label_misfit _ c.in_err-check_names.ensures.0, c.in_err-check_names.ensures.1)

pub returns-then-eq-2 : goal.returns-then-eq-2
returns-then-eq-2 c = reads_why c.args.word.now (map string_bytes c.args.words.now) c.in_ok-class.class ((bytes_eq-Decides _ _).0 (sym c.eq-2.ensures ∙ c.if-eq-2.true)) c.in_ok-class.ensures

pub returns-in_err-class : goal.returns-in_err-class
returns-in_err-class c =
    rw (failed _ c.from_residual-in_err-class.ensures.1, (bytes_eq-Decides c.args.word.now why_word).0 (sym c.eq-2.ensures ∙ c.if-eq-2.true))
    (reads_why_misfit _ c.in_err-class.ensures.0, c.in_err-class.ensures.1)

pub returns-then-eq-3 : goal.returns-then-eq-3
returns-then-eq-3 c = subst (λ w. Asks (w ∷ map string_bytes c.args.words.now) (Solve c.in_ok-at.at))
    (sym ((bytes_eq-Decides _ _).0 (sym c.eq-3.ensures ∙ c.if-eq-3.true))) c.in_ok-at.ensures

pub returns-in_err-at : goal.returns-in_err-at
returns-in_err-at c =
    rw (failed _ c.from_residual-in_err-at.ensures.1, (bytes_eq-Decides c.args.word.now solve_word).0 (sym c.eq-3.ensures ∙ c.if-eq-3.true))
    (reads_solve_misfit _ c.in_err-at.ensures.0, c.in_err-at.ensures.1)

pub returns-then-eq-4 : goal.returns-then-eq-4
returns-then-eq-4 c = rw ((bytes_eq-Decides c.args.word.now trial_word).0 (sym c.eq-4.ensures ∙ c.if-eq-4.true)) c.in_ok-trial.ensures

pub returns-in_err-trial : goal.returns-in_err-trial
returns-in_err-trial c =
    rw (failed _ c.from_residual-in_err-trial.ensures.1, (bytes_eq-Decides c.args.word.now trial_word).0 (sym c.eq-4.ensures ∙ c.if-eq-4.true))
    (reads_trial_misfit _ c.in_err-trial.ensures.0, c.in_err-trial.ensures.1)

pub returns : goal.returns
returns c = reads_all c.args.word.now (map string_bytes c.args.words.now) c.read_alone.result (sym c.eq.ensures ∙ c.if-eq.false)
    (sym c.eq-2.ensures ∙ c.if-eq-2.false) (sym c.eq-3.ensures ∙ c.if-eq-3.false) (sym c.eq-4.ensures ∙ c.if-eq-4.false) c.read_alone.ensures
