use Rattle.std.proofs.Common.{arith}
use Rattle.std.proofs.lemmas.Grind.{common_steps}
use Rattle.msp_instance.proofs.jobs.lies_within.Goals as goal

pub returns-then-x : goal.returns-then-x
returns-then-x c = grind (arith, common_steps)

pub returns-else-x : goal.returns-else-x
returns-else-x c = grind (arith, common_steps)
