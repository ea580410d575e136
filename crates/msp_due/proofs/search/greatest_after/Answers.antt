use Rattle.std.proofs.Common.{refl, to_z}
use Rattle.std.specs.Int.{w128}
use Rattle.msp_due.proofs.Ranges.{greatest-next}
use Rattle.msp_due.proofs.search.greatest_after.Goals as goal

pub loop-job-preserved : goal.loop-job-preserved
loop-job-preserved c =
    let next = greatest-next c.args.inst.now c.args.slots c.loop-job.job (to_z w128 c.loop-job.greatest-bits) c.cost_in.result _ _ c.max-greatest.result
    refl refl c.max-greatest.ensures.value c.cost_in.ensures.value c.cost_in.ensures.size c.loop-job.invariant.greatest c.loop-job.invariant.size in
    record { greatest = next.0; size = next.1 }
