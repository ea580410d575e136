use Rattle.std.proofs.Common.{arith, refl}
use Rattle.std.proofs.lemmas.List.{get_or_default}
use Rattle.msp_shops.proofs.Passing.{HasPassed-next}
use Rattle.msp_shops.proofs.pass.pass.Goals as goal

pub loop-job-preserved : goal.loop-job-preserved
loop-job-preserved c =
    HasPassed-next c.args.first c.args.second c.requires.machines c.args.jobs.now c.args.from _ _ c.loop-job.job-index _ c.args.pieces.now _ _ _ _ (omega arith)
    (get_or_default c.args.jobs.now c.loop-job.job-index _ _ (omega arith)) c.requires.once c.requires.times
    c.max-begin.ensures c.in_ok-put.ensures c.in_ok-put-2.ensures refl c.loop-job.invariant
