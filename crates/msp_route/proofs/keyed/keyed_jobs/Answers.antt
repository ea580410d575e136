use Rattle.std.proofs.Common.{refl, slice_index_or}
use Rattle.msp_route.proofs.Pushes.{numbers-next}
use Rattle.msp_route.specs.declared.keyed.Keyed.{Keyed}
use Rattle.msp_route.proofs.KeyedJobs.{keys-next}
use Rattle.msp_route.proofs.keyed.keyed_jobs.Goals as goal

pub loop-place-preserved : goal.loop-place-preserved
loop-place-preserved c =
    let more = c.in_ok-push.ensures.items in
    record {
      jobs = numbers-next (λ (k : Keyed). k.job) _ _ _ c.loop-place.place more refl c.loop-place.invariant.jobs;
      keys = keys-next (λ j. slice_index_or c.args.keys.now j 0) _ _ _ more refl c.loop-place.invariant.keys;
    }
