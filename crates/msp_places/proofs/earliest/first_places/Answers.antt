use Rattle.std.proofs.Common.{refl, rules}
use Rattle.msp_places.proofs.Turns.{first_next, first_all}
use Rattle.msp_places.proofs.earliest.first_places.Goals as goal

pub loop-machine-preserved : goal.loop-machine-preserved
loop-machine-preserved c = first_next c.args.lengths.now c.loop-machine.machine _ _ _ c.in_ok-push.ensures.items refl c.loop-machine.invariant

pub returns : goal.returns
returns c = first_all c.args.lengths.now _ _ (search rules) c.loop-machine.invariant
