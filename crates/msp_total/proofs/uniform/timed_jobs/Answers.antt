use Rattle.std.proofs.Common.{◌≡◌, [], ◌∷◌, ◌++◌, refl, rules}
use Rattle.msp_route.proofs.Pushes.{numbers-next}
use Rattle.msp_total.proofs.TurnSteps.{time_read, times-next}
use Rattle.msp_total.proofs.uniform.timed_jobs.Goals as goal

pub loop-k-preserved : goal.loop-k-preserved
loop-k-preserved c =
    let more : c.push.new.self.items ≡ c.loop-k.all.items ++ record { job = c.loop-k.k; key = c.first_time-time.result } ∷ [] = search rules in
    record {
      jobs = numbers-next (λ t. t.job) _ _ _ c.loop-k.k more refl c.loop-k.invariant.jobs;
      times = times-next c.args.inst.now _ _ _ more
          (time_read c.args.inst.now c.as_slice-jobs.result.now c.loop-k.k c.index-jobs-k.result _ _ c.as_slice-jobs.ensures c.loop-k-test.true c.as_slice.ensures c.first_time-time.ensures)
          c.loop-k.invariant.times;
    }
