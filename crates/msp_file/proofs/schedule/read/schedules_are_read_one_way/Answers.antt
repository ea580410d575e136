-- The goals of `schedules_are_read_one_way` that are proved by lemmas.
use Rattle.msp_file.proofs.schedules.Readings.{schedule_same}
use Rattle.msp_file.proofs.schedule.read.schedules_are_read_one_way.Goals as goal

pub returns : goal.returns
returns c = schedule_same
