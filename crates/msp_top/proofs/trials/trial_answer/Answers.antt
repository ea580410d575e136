-- The goals of `trial_answer` that are proved by lemmas.
use Rattle.std.proofs.Common.{inl, refl}
use Rattle.msp_top.proofs.Exits.{failed}
use Rattle.msp_top.proofs.trials.trial_answer.Goals as goal

pub returns-in_err-inst : goal.returns-in_err-inst
returns-in_err-inst c = rw (failed _ c.from_residual.ensures.1) (inl (refl, refl))
