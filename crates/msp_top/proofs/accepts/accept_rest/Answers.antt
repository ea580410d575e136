-- The goals of `accept_rest` that are proved by lemmas.
use Rattle.msp_top.specs.Answers.{OfRest}
use Rattle.msp_top.specs.Accepts.{AcceptIsRight, judged, misread_rest}
use Rattle.msp_top.proofs.Exits.{failed}
use Rattle.msp_top.proofs.SolveAnswers.{fault_first}
use Rattle.msp_top.proofs.accepts.accept_rest.Goals as goal

pub returns-in_err-certificate : goal.returns-in_err-certificate
returns-in_err-certificate c = rw (failed _ c.from_residual.ensures.1) (fault_first (OfRest AcceptIsRight c.args.filed.now c.args.line c.args.rest.now) _
    (λ other input begins. misread_rest _ _ _ _ begins other c.in_err-certificate.ensures.fault))

pub returns : goal.returns
returns c = λ input begins. judged c.args.filed.now c.in_ok-certificate.certificate c.args.line c.args.rest.now _ _ begins c.in_ok-certificate.ensures.text c.in_ok-report_on.ensures
