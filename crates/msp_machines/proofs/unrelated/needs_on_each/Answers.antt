-- One more need.
use Rattle.std.proofs.Common.{rules}
use Rattle.msp_machines.specs.laws.NeedsBy.{next_needs}
use Rattle.msp_machines.proofs.unrelated.needs_on_each.Goals as goal

pub loop-machine-preserved : goal.loop-machine-preserved
loop-machine-preserved c = next_needs c.put.new.self c.loop-machine.needs c.loop-machine.machine (λ m. c.args.time) (search rules) c.loop-machine.invariant
