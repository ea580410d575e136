-- The goals of `read_schedule` that are proved by lemmas.
use Rattle.msp_file.proofs.schedules.ScheduleLaws.{schedule_answered, schedule_faults_answered}
use Rattle.msp_file.proofs.schedule.read.read_schedule.Goals as goal

pub returns-clause-again : goal.returns-clause-again
returns-clause-again c = schedule_answered c.args.names.now c.args.line c.args.bytes.now c.schedule_at.result c.len.ensures.names c.len.ensures.distinct c.schedule_at.ensures

pub returns-clause-schedule_faults : goal.returns-clause-schedule_faults
returns-clause-schedule_faults c = schedule_faults_answered c.args.names.now c.args.line c.args.bytes.now c.schedule_at.result c.schedule_at.ensures
