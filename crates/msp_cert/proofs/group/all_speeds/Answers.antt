use Rattle.msp_pieces.specs.Speeds.{speed_of}
use Rattle.msp_cert.proofs.Apart.{range_next}
use Rattle.msp_cert.proofs.group.all_speeds.Goals as goal

pub loop-machine-preserved : goal.loop-machine-preserved
loop-machine-preserved c = range_next (speed_of c.args.inst.now) _ _ c.loop-machine.machine _ c.in_ok-push.ensures.items c.speed_of.ensures c.loop-machine.invariant
