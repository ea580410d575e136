-- The goals of `check_rest` that are proved by lemmas.
use Rattle.std.proofs.Common.{sym, ◌∙◌}
use Rattle.msp_top.specs.Answers.{OfRest}
use Rattle.msp_top.specs.Checks.{CheckIsRight, checked, misread_rest}
use Rattle.msp_top.proofs.Exits.{failed}
use Rattle.msp_top.proofs.WordLemmas.{differ}
use Rattle.msp_top.proofs.CheckAnswers.{rest_unchecked}
use Rattle.msp_top.proofs.SolveAnswers.{fault_first}
use Rattle.msp_top.proofs.checks.check_rest.Goals as goal

pub returns-then-is_unchecked : goal.returns-then-is_unchecked
returns-then-is_unchecked c = rest_unchecked c.args.filed.now c.args.line c.args.rest.now c.unchecked.result (c.is_unchecked.ensures.0 c.if-is_unchecked.true) c.unchecked.ensures

pub returns-in_err-stated : goal.returns-in_err-stated
returns-in_err-stated c = rw (failed _ c.from_residual.ensures.1) (fault_first (OfRest CheckIsRight c.args.filed.now c.args.line c.args.rest.now) _
    (λ other input begins. misread_rest _ _ _ _ begins
    (λ cut. differ (sym c.if-is_unchecked.false ∙ c.is_unchecked.ensures.1 cut)) other c.in_err-stated.ensures.fault))

pub returns : goal.returns
returns c = λ input begins.
    checked c.args.filed.now c.in_ok-stated.stated c.args.line c.args.rest.now _ _ begins (λ cut. differ (sym c.if-is_unchecked.false ∙ c.is_unchecked.ensures.1 cut))
    c.in_ok-stated.ensures.text c.in_ok-report_on.ensures.status c.in_ok-report_on.ensures.text
