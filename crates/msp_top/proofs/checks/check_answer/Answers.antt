-- The goals of `check_answer` that are proved by lemmas.
use Rattle.std.proofs.Common.{length, ap, arith}
use Rattle.std.proofs.lemmas.List.{length-drop}
use Rattle.msp_top.specs.declared.answers.TheConstants.{CHECK_LIMIT}
use Rattle.msp_top.specs.Checks.{CheckIsRight, misread_front}
use Rattle.msp_top.proofs.Exits.{failed}
use Rattle.msp_top.proofs.CheckAnswers.{front_inside, front_line, front_right, rest_part}
use Rattle.msp_top.proofs.SolveAnswers.{fault_first}
use Rattle.msp_top.proofs.checks.check_answer.Goals as goal

pub returns-in_err-front : goal.returns-in_err-front
returns-in_err-front c = rw (failed _ c.from_residual.ensures.1)
    (fault_first (CheckIsRight c.args.input.now) _ (λ other. misread_front _ other c.in_err-front.ensures.fault))

pub slice_bounds-check_rest-count : goal.slice_bounds-check_rest-count
slice_bounds-check_rest-count c = omega (arith, front_inside c.args.input.now c.in_ok-front.front c.in_ok-front.ensures.text)

pub slice_bounds-check_rest-start : goal.slice_bounds-check_rest-start
slice_bounds-check_rest-start c = omega (arith, front_inside c.args.input.now c.in_ok-front.front c.in_ok-front.ensures.text)

pub slice_bounds-check_rest-end : goal.slice_bounds-check_rest-end
slice_bounds-check_rest-end c = omega (arith, front_inside c.args.input.now c.in_ok-front.front c.in_ok-front.ensures.text)

pub check_rest-requires-clause-rest : goal.check_rest-requires-clause-rest
check_rest-requires-clause-rest c = omega (arith, ap length (rest_part c.in_ok-front.front.used c.args.input.now), length-drop c.in_ok-front.front.used c.args.input.now, c.requires)

pub check_rest-requires-clause-line : goal.check_rest-requires-clause-line
check_rest-requires-clause-line c = let lines = front_line c.args.input.now c.in_ok-front.front CHECK_LIMIT c.in_ok-front.ensures.text c.requires in (lines.0, omega (arith, lines.1))

pub returns : goal.returns
returns c = front_right CheckIsRight c.args.input.now _ c.in_ok-front.front c.check_rest.result c.in_ok-front.ensures.text (rest_part c.in_ok-front.front.used c.args.input.now) c.check_rest.ensures
