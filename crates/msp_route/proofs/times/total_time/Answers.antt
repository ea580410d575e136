use Rattle.std.proofs.Common.{◌+◌, refl, ap}
use Rattle.msp_pieces.specs.BackToBack.{time_at}
use Rattle.msp_route.proofs.JobReads.{ends-next, time_read, ends_early}
use Rattle.msp_route.proofs.times.total_time.Goals as goal

pub loop-k-preserved : goal.loop-k-preserved
loop-k-preserved c =
    let i = c.args.inst.now in
    let within = c.requires.jobs c.loop-k.k 0 c.loop-k-test.true in
    let is = time_read i c.as_slice-all.result.now _ _ c.index-all-jobs.result c.as_slice-all.ensures within c.index-all-jobs.is c.first_time-total.ensures in
    record {
      value = ends-next (time_at i) c.args.jobs.now c.loop-k.k _ c.loop-k.total _ (ap (λ t. c.loop-k.total + t) is) c.loop-k-test.true refl c.loop-k.invariant.value;
      early = ends_early i _ c.loop-k.k c.loop-k.total c.first_time-total.result c.requires.needs within is c.loop-k.invariant.early;
    }
