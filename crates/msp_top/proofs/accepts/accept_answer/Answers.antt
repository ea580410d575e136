-- The goals of `accept_answer` that are proved by lemmas.
use Rattle.std.proofs.Common.{length, ap, arith}
use Rattle.std.proofs.lemmas.List.{length-drop}
use Rattle.msp_top.specs.declared.answers.TheConstants.{CHECK_LIMIT}
use Rattle.msp_top.specs.Accepts.{AcceptIsRight, misread_front}
use Rattle.msp_top.proofs.Exits.{failed}
use Rattle.msp_top.proofs.CheckAnswers.{front_inside, front_line, front_right, rest_part}
use Rattle.msp_top.proofs.SolveAnswers.{fault_first}
use Rattle.msp_top.proofs.accepts.accept_answer.Goals as goal

pub returns-in_err-front : goal.returns-in_err-front
returns-in_err-front c = rw (failed _ c.from_residual.ensures.1)
    (fault_first (AcceptIsRight c.args.input.now) _ (λ other. misread_front _ other c.in_err-front.ensures.fault))

pub slice_bounds-accept_rest-count : goal.slice_bounds-accept_rest-count
slice_bounds-accept_rest-count c = omega (arith, front_inside c.args.input.now c.in_ok-front.front c.in_ok-front.ensures.text)

pub slice_bounds-accept_rest-start : goal.slice_bounds-accept_rest-start
slice_bounds-accept_rest-start c = omega (arith, front_inside c.args.input.now c.in_ok-front.front c.in_ok-front.ensures.text)

pub slice_bounds-accept_rest-end : goal.slice_bounds-accept_rest-end
slice_bounds-accept_rest-end c = omega (arith, front_inside c.args.input.now c.in_ok-front.front c.in_ok-front.ensures.text)

pub accept_rest-requires-clause-rest : goal.accept_rest-requires-clause-rest
accept_rest-requires-clause-rest c = omega (arith, ap length (rest_part c.in_ok-front.front.used c.args.input.now), length-drop c.in_ok-front.front.used c.args.input.now, c.requires)

pub accept_rest-requires-clause-line : goal.accept_rest-requires-clause-line
accept_rest-requires-clause-line c = let lines = front_line c.args.input.now c.in_ok-front.front CHECK_LIMIT c.in_ok-front.ensures.text c.requires in (lines.0, omega (arith, lines.1))

pub returns : goal.returns
returns c = front_right AcceptIsRight c.args.input.now _ c.in_ok-front.front c.accept_rest.result c.in_ok-front.ensures.text (rest_part c.in_ok-front.front.used c.args.input.now) c.accept_rest.ensures
