-- The goals of `try_out` that are proved by lemmas.
use Rattle.msp_top.specs.Run.{of_trial}
use Rattle.msp_top.proofs.Exits.{failed}
use Rattle.msp_top.proofs.Endings.{serves_untried, serves_trial, breaks_off}
use Rattle.msp_top.proofs.serve.try_out.Goals as goal

pub returns-in_err-made-clause-served : goal.returns-in_err-made-clause-served
returns-in_err-made-clause-served g c words asked =
    rw (failed _ c.from_residual.ensures.1) (serves_untried words _ _ _ c.args.trial.now c.in_err-made.field-0.0 asked c.in_err-made.ensures)

pub returns-in_err-write_all-clause-served : goal.returns-in_err-write_all-clause-served
returns-in_err-write_all-clause-served g c words asked = rw (failed _ c.from_residual-in_err-write_all.ensures.1)
    (breaks_off words _ _ _ _ _ _ c.in_err-write_all.field-0.0 (of_trial c.args.trial.now _ _ asked c.in_ok-made.ensures)
    c.deref.ensures.value c.in_err-write_all.ensures.put c.in_err-write_all.ensures.fault)

pub returns-clause-served : goal.returns-clause-served
returns-clause-served g c words asked =
    serves_trial words _ _ _ c.args.trial.now c.in_ok-made.made _ asked c.in_ok-made.ensures c.deref.ensures.value c.in_ok-write_all.ensures.put.all
