-- The goals of `read_instance` that are proved by lemmas.
use Rattle.msp_file.proofs.instances.AnswerLemmas.{fault_of_lines, fault_of_whole, failed}
use Rattle.msp_file.proofs.instances.AnswerLaws.{again_read, again_fault, fault_of_text, text_of_read}
use Rattle.msp_file.proofs.instances.TextLaws.{whole_takes}
use Rattle.msp_file.proofs.instance.read.read_instance.Goals as goal

pub returns-in_err-read-clause-again : goal.returns-in_err-read-clause-again
returns-in_err-read-clause-again c = rw (failed _ c.from_residual.ensures.1) (again_fault _ _ (fault_of_lines _ _ c.in_err-read.ensures.gives))

pub returns-in_err-read-clause-class_faults : goal.returns-in_err-read-clause-class_faults
returns-in_err-read-clause-class_faults c =
    rw (failed _ c.from_residual.ensures.1) (fault_of_text _ _ (fault_of_lines _ _ c.in_err-read.ensures.gives))

pub returns-clause-again : goal.returns-clause-again
returns-clause-again c = rw (c.in_ok-filed.ensures.0) (again_read c.args.bytes.now c.in_ok-read.read c.in_ok-read.ensures.gives)

pub returns-in_err-filed-clause-again : goal.returns-in_err-filed-clause-again
returns-in_err-filed-clause-again c =
    rw (failed _ c.from_residual-in_err-filed.ensures.1) (again_fault _ _ (fault_of_whole _ _ _ c.in_ok-read.ensures.gives c.in_err-filed.ensures))

pub returns-clause-text : goal.returns-clause-text
returns-clause-text c = rw (c.in_ok-filed.ensures.0) (text_of_read c.args.bytes.now c.in_ok-read.read c.in_ok-read.ensures.gives c.in_ok-filed.ensures.1)

pub returns-in_err-read-clause-fault : goal.returns-in_err-read-clause-fault
returns-in_err-read-clause-fault c = rw (failed _ c.from_residual.ensures.1) (fault_of_lines _ _ c.in_err-read.ensures.gives)

pub returns-in_err-filed-clause-fault : goal.returns-in_err-filed-clause-fault
returns-in_err-filed-clause-fault c =
    rw (failed _ c.from_residual-in_err-filed.ensures.1) (fault_of_whole _ _ _ c.in_ok-read.ensures.gives c.in_err-filed.ensures)

pub returns-in_err-filed-clause-class_faults : goal.returns-in_err-filed-clause-class_faults
returns-in_err-filed-clause-class_faults c =
    rw (failed _ c.from_residual-in_err-filed.ensures.1) (fault_of_text _ _ (fault_of_whole _ _ _ c.in_ok-read.ensures.gives c.in_err-filed.ensures))

pub checked-requires-clause-once : goal.checked-requires-clause-once
checked-requires-clause-once c = (whole_takes c.args.bytes.now c.in_ok-read.read c.in_ok-read.ensures.gives).once
