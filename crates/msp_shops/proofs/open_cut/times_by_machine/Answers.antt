use Rattle.msp_shops.proofs.OpenCutFacts.{AreTimes-next}
use Rattle.msp_shops.proofs.open_cut.times_by_machine.Goals as goal

pub loop-machine-preserved : goal.loop-machine-preserved
loop-machine-preserved c = AreTimes-next c.args.inst.now c.loop-machine.machine _ _ c.in_ok-put_row.ensures c.loop-machine.invariant
