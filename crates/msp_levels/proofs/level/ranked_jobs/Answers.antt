use Rattle.std.proofs.Common.{refl, slice_index}
use Rattle.msp_route.proofs.Pushes.{numbers-next}
use Rattle.msp_route.proofs.KeyedJobs.{keys-next}
use Rattle.msp_levels.proofs.level.ranked_jobs.Goals as goal

pub loop-job-preserved : goal.loop-job-preserved
loop-job-preserved c =
    let more = c.in_ok-push.ensures.items in
    record {
      jobs = numbers-next (λ r. r.job) _ _ _ c.loop-job.job more refl c.loop-job.invariant.jobs;
      levels = keys-next (slice_index c.args.levels.now) _ _ _ more c.from-key.ensures c.loop-job.invariant.levels;
    }
