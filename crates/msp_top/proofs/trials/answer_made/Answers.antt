-- The goals of `answer_made` that are proved by lemmas.
use Rattle.std.proofs.Common.{inl, refl}
use Rattle.msp_top.proofs.Exits.{failed}
use Rattle.msp_top.proofs.TrialAnswers.{trial_unsolved, trial_solved}
use Rattle.msp_top.proofs.trials.answer_made.Goals as goal

pub returns-in_err-answer : goal.returns-in_err-answer
returns-in_err-answer c = rw (failed _ c.from_residual.ensures.1) (trial_unsolved _ _ _ c.requires.made c.in_err-answer.ensures.fault)

pub returns-in_err-text : goal.returns-in_err-text
returns-in_err-text c = rw (failed _ c.from_residual-in_err-text.ensures.1) (inl (refl, refl))

pub returns : goal.returns
returns c = trial_solved c.args.trial.now c.args.inst.now c.in_ok-answer.answer c.in_ok-text.text.items c.requires.made c.in_ok-answer.ensures.answer c.in_ok-text.ensures
