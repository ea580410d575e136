use Rattle.msp_shops.proofs.Grouped.{grouped-next}
use Rattle.msp_shops.proofs.groups.jobs_from.Goals as goal

pub loop-k-preserved : goal.loop-k-preserved
loop-k-preserved c = grouped-next c.args.inst.now c.args.machine _ _ c.loop-k.k c.in_ok-put_job.ensures c.loop-k.invariant
