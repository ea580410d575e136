use Rattle.std.proofs.Common.{arith}
use Rattle.std.proofs.lemmas.Grind.{common_steps}
use Rattle.msp_instance.proofs.jobs.has_same_times.Goals as goal

pub returns-in-Unit : goal.returns-in-Unit
returns-in-Unit c = grind (arith, common_steps)

pub returns-in-Equal : goal.returns-in-Equal
returns-in-Equal c = grind (arith, common_steps)
