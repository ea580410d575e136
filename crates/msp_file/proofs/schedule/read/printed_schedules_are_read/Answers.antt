-- The goals of `printed_schedules_are_read` that are proved by lemmas.
use Rattle.msp_file.proofs.schedules.ScheduleLaws.{printed_again}
use Rattle.msp_file.proofs.schedule.read.printed_schedules_are_read.Goals as goal

pub returns : goal.returns
returns c = printed_again
