-- The goals of `arc_step` that are proved by lemmas.
use Rattle.msp_file.proofs.instances.LineSteps.{arc_step_read, arc_step_stopped}
use Rattle.msp_file.proofs.instance.draft.arc_step.Goals as goal

pub returns-in-Ok-clause-after : goal.returns-in-Ok-clause-after
returns-in-Ok-clause-after c = arc_step_read _ _ _ _ _ _ _ _ c.in-Ok.ensures.moves c.split_word.ensures.fields c.arc_or_end.ensures.after

pub returns-in-Err-clause-after : goal.returns-in-Err-clause-after
returns-in-Err-clause-after c = arc_step_stopped c.in-Err.fault _ _ c.in-Err.ensures.moves
