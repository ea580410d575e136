use Rattle.msp_stairs.proofs.Laying.{level_next}
use Rattle.msp_stairs.proofs.climb.level.Goals as goal

pub loop-machine-preserved : goal.loop-machine-preserved
loop-machine-preserved c = level_next c.loop-machine.stairs.items c.push.new.self.items c.loop-machine.machine c.in_ok-push.ensures.items c.loop-machine.invariant
