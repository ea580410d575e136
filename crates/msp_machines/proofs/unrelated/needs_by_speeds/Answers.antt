-- One more need.
use Rattle.std.proofs.Common.{◌*◌, ◌/◌, slice_index_or, rules}
use Rattle.msp_machines.specs.laws.NeedsBy.{next_needs}
use Rattle.msp_machines.proofs.unrelated.needs_by_speeds.Goals as goal

pub loop-machine-preserved : goal.loop-machine-preserved
loop-machine-preserved c = next_needs c.put.new.self c.loop-machine.needs c.loop-machine.machine
    (λ m. c.args.time * (c.args.factor / slice_index_or c.args.speeds.now m 0)) (search rules) c.loop-machine.invariant
