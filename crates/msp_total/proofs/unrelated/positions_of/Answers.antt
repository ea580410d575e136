use Rattle.msp_total.proofs.UnrelatedFacts.{needs}
use Rattle.msp_total.proofs.ColumnSteps.{times-next, needs_count}
use Rattle.msp_total.proofs.unrelated.positions_of.Goals as goal
use Rattle.msp_pieces.proofs.feasible.OfClass.{IsOfClass-from}
use Rattle.msp_total.specs.Classes.{unrelated_class}

pub loop-k-preserved : goal.loop-k-preserved
loop-k-preserved c =
    let h = IsOfClass-from c.args.inst.now unrelated_class c.requires.class c.requires.inner in
    times-next c.args.inst.now c.as_slice-jobs.result.now c.loop-k.k c.index-jobs-k.result c.as_slice.result.now _ _ c.as_slice-jobs.ensures c.loop-k-test.true c.as_slice.ensures
    (needs_count c.args.inst.now c.as_slice-jobs.result.now c.loop-k.k c.index-jobs-k.result c.as_slice.result.now c.as_slice-jobs.ensures c.loop-k-test.true c.as_slice.ensures
    (needs c.args.inst.now h)) c.in_ok-put_times.ensures c.loop-k.invariant
