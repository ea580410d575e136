-- The goals of `answer_filed` that are proved by lemmas.
use Rattle.std.proofs.Common.{inl, refl}
use Rattle.msp_top.specs.Solves.{solved}
use Rattle.msp_top.proofs.Exits.{failed}
use Rattle.msp_top.proofs.SolveAnswers.{cannot_first}
use Rattle.msp_top.proofs.Stated.{stated}
use Rattle.msp_top.proofs.solves.answer_filed.Goals as goal

pub returns-in_err-answer : goal.returns-in_err-answer
returns-in_err-answer c =
    rw (failed _ c.from_residual.ensures.1) (cannot_first c.args.at c.args.filed.now c.in_err-answer.field-0.0 c.in_err-answer.ensures.fault)

pub solve_text-requires-clause-stated : goal.solve_text-requires-clause-stated
solve_text-requires-clause-stated c = stated _ c.args.filed.now.instance _ c.requires.class c.requires.named c.in_ok-answer.ensures.answer.solution

pub returns-in_err-text : goal.returns-in_err-text
returns-in_err-text c = rw (failed _ c.from_residual-in_err-text.ensures.1) (inl (refl, refl))

pub returns : goal.returns
returns c = λ input read. solved c.in_ok-text.text.items (record {
  names = c.args.filed.now.names;
  instance = c.args.filed.now.instance;
  answer = c.in_ok-answer.answer;
  read = read;
  answered = c.in_ok-answer.ensures.answer;
  printed = c.in_ok-text.ensures;
})
