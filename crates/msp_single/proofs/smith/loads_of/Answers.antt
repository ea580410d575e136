use Rattle.std.proofs.Common.{refl, sym, ap}
use Rattle.msp_route.proofs.Pushes.{numbers-next}
use Rattle.msp_single.specs.declared.smith.Load.{Load}
use Rattle.msp_single.proofs.SmithSteps.{each-next}
use Rattle.msp_single.proofs.smith.loads_of.Goals as goal

pub loop-k-preserved : goal.loop-k-preserved
loop-k-preserved c =
    let more = c.in_ok-push.ensures.items in
    record {
      numbers = numbers-next (λ (y : Load). y.job) _ _ _ c.loop-k.k more refl c.loop-k.invariant.numbers;
      each = each-next c.args.inst.now _ _ _ c.as_slice-jobs.result.now c.loop-k.k _ _ more c.as_slice-jobs.ensures c.loop-k-test.true c.index-jobs-k.is
          c.index-jobs-k-in-loop-k.is refl c.first_time-time.ensures (ap (λ y. y.weight) (sym c.index-jobs-k-in-loop-k.is)) c.loop-k.invariant.each;
    }
