-- The goals of `answer_question` that are proved by lemmas.
use Rattle.msp_top.specs.Reports.{reported}
use Rattle.msp_top.proofs.Exits.{failed}
use Rattle.msp_top.proofs.QuestionAnswers.{misread_right}
use Rattle.msp_top.proofs.questions.answer_question.Goals as goal

pub returns-in_err-entries : goal.returns-in_err-entries
returns-in_err-entries c = rw (failed _ c.from_residual.ensures.1) (misread_right _ _ _ _ c.in_err-entries.was c.read_results.ensures.reading)

pub returns : goal.returns
returns c = reported c.in_ok-entries.entries _ _ c.in_ok-entries.ensures.ok c.in_ok-report_on.ensures.status c.in_ok-report_on.ensures.text
