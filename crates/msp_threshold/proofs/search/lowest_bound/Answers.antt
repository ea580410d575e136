use Rattle.std.proofs.Common.{refl, to_z}
use Rattle.std.specs.Int.{w64}
use Rattle.msp_threshold.proofs.Bounds.{lowest-start, lowest-next, lowest-end}
use Rattle.msp_threshold.proofs.search.lowest_bound.Goals as goal

pub loop-job-init : goal.loop-job-init
loop-job-init c = lowest-start c.args.jobs.now
    c.requires.releases c.requires.dues 0 c.index-jobs-0.result c.least_lateness-lowest.result c.requires.some c.index-jobs-0.is c.least_lateness-lowest.ensures

pub loop-job-preserved : goal.loop-job-preserved
loop-job-preserved c =
    lowest-next c.args.jobs.now c.requires.releases c.requires.dues c.loop-job.job-index c.job-item.result c.least_lateness.result c.loop-job-test.true c.job-item.is c.least_lateness.ensures
    (to_z w64 c.loop-job.lowest-bits) _ _ c.max-lowest.result refl refl c.max-lowest.ensures.value c.loop-job.invariant

pub returns-clause-lowest : goal.returns-clause-lowest
returns-clause-lowest c = lowest-end c.args.jobs.now c.loop-job.job-index _ (to_z w64 c.loop-job.lowest-bits) c.loop-job-test.false refl c.loop-job.invariant

pub returns-clause-size : goal.returns-clause-size
returns-clause-size c = c.loop-job.invariant.size
