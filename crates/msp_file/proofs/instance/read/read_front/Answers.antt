-- The goals of `read_front` that are proved by lemmas.
use Rattle.msp_grammar.specs.lines.Steps.{place_of}
use Rattle.msp_file.specs.instance.Reading.{start_of}
use Rattle.msp_file.proofs.instances.AnswerLemmas.{failed}
use Rattle.msp_file.proofs.instances.TextLaws.{lines_take}
use Rattle.msp_file.proofs.instances.AnswerLaws.{fault_of_front_text}
use Rattle.msp_file.proofs.instances.FrontLaws.{left_within, front_fault, front_fault_of_filed, front_read, front_text, again_front}
use Rattle.msp_file.proofs.instance.read.read_front.Goals as goal

pub returns-in_err-read-clause-again : goal.returns-in_err-read-clause-again
returns-in_err-read-clause-again c = rw (failed _ c.from_residual.ensures.1) (again_front _ _ (front_fault _ _ c.in_err-read.ensures.moves))

pub returns-in_err-read-clause-front_faults : goal.returns-in_err-read-clause-front_faults
returns-in_err-read-clause-front_faults c =
    rw (failed _ c.from_residual.ensures.1) (fault_of_front_text _ _ (front_fault _ _ c.in_err-read.ensures.moves))

pub returns-clause-again : goal.returns-clause-again
returns-clause-again c = rw (c.in_ok-filed.ensures.0) (front_read c.args.bytes.now c.in_ok-read.read (place_of c.lines_at.new.lines) c.in_ok-read.ensures.moves c.in_ok-filed.ensures.1)

pub returns-in_err-filed-clause-again : goal.returns-in_err-filed-clause-again
returns-in_err-filed-clause-again c =
    rw (failed _ c.from_residual-in_err-filed.ensures.1) (again_front _ _ (front_fault_of_filed _ _ _ _ c.in_ok-read.ensures.moves c.in_err-filed.ensures))

pub returns-in_err-filed-clause-front_faults : goal.returns-in_err-filed-clause-front_faults
returns-in_err-filed-clause-front_faults c =
    rw (failed _ c.from_residual-in_err-filed.ensures.1) (fault_of_front_text _ _ (front_fault_of_filed _ _ _ _ c.in_ok-read.ensures.moves c.in_err-filed.ensures))

pub returns-clause-text : goal.returns-clause-text
returns-clause-text c = rw (c.in_ok-filed.ensures.0) (front_text c.args.bytes.now c.in_ok-read.read (place_of c.lines_at.new.lines) c.in_ok-read.ensures.moves c.in_ok-filed.ensures.1)

pub returns-in_err-read-clause-fault : goal.returns-in_err-read-clause-fault
returns-in_err-read-clause-fault c = rw (failed _ c.from_residual.ensures.1) (front_fault _ _ c.in_err-read.ensures.moves)

pub returns-in_err-filed-clause-fault : goal.returns-in_err-filed-clause-fault
returns-in_err-filed-clause-fault c =
    rw (failed _ c.from_residual-in_err-filed.ensures.1) (front_fault_of_filed _ _ _ _ c.in_ok-read.ensures.moves c.in_err-filed.ensures)

pub checked-requires-clause-once : goal.checked-requires-clause-once
checked-requires-clause-once c = (lines_take (start_of c.args.bytes.now) _ c.in_ok-read.ensures.moves).2.once

pub overflow_sub-result : goal.overflow_sub-result
overflow_sub-result c = left_within c.args.bytes.now c.in_ok-read.read (place_of c.lines_at.new.lines) c.in_ok-read.ensures.moves
