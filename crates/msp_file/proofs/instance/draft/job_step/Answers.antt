-- The goals of `job_step` that are proved by lemmas.
use Rattle.msp_file.proofs.instances.LineSteps.{job_step_read, job_step_stopped}
use Rattle.msp_file.proofs.instance.draft.job_step.Goals as goal

pub returns-in-Ok-clause-after : goal.returns-in-Ok-clause-after
returns-in-Ok-clause-after c = job_step_read _ _ _ _ _ _ _ _ _ _ _ _ c.in-Ok.ensures.moves c.split_word.ensures.fields c.job_or_other.ensures.after

pub returns-in-Err-clause-after : goal.returns-in-Err-clause-after
returns-in-Err-clause-after c = job_step_stopped _ _ _ c.in-Err.fault _ _ c.in-Err.ensures.moves
