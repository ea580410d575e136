-- The goals of `solve_answer` that are proved by lemmas.
use Rattle.msp_top.specs.Solves.{SolveIsRight, misread}
use Rattle.msp_top.proofs.Exits.{failed}
use Rattle.msp_top.proofs.SolveAnswers.{filed_right, fault_first}
use Rattle.msp_top.proofs.solves.solve_answer.Goals as goal

pub returns-in_err-filed : goal.returns-in_err-filed
returns-in_err-filed c = rw (failed _ c.from_residual.ensures.1)
    (fault_first (SolveIsRight c.args.input.now c.args.at) _ (λ other. misread _ other c.in_err-filed.ensures.fault))

pub returns : goal.returns
returns c = filed_right (λ input. SolveIsRight input c.args.at) c.args.input.now c.in_ok-filed.filed c.answer_filed.result c.in_ok-filed.ensures.text c.answer_filed.ensures
