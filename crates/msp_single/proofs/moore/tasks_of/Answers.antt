use Rattle.std.proofs.Common.{refl, sym, ap, ◌∙◌, rules}
use Rattle.std.proofs.lemmas.Int.{to_z-of_z}
use Rattle.std.specs.Int.{w64}
use Rattle.msp_route.proofs.Pushes.{numbers-next}
use Rattle.msp_single.specs.declared.moore.Task.{Task}
use Rattle.msp_single.proofs.MooreSteps.{each-next}
use Rattle.msp_single.proofs.moore.tasks_of.Goals as goal

pub loop-k-preserved : goal.loop-k-preserved
loop-k-preserved c =
    let more = c.in_ok-push.ensures.items in
    record {
      numbers = numbers-next (λ (y : Task). y.job) _ _ _ c.loop-k.k more refl c.loop-k.invariant.numbers;
      each = each-next c.args.inst.now _ _ _ c.as_slice-jobs.result.now c.loop-k.k _ _ more c.as_slice-jobs.ensures c.loop-k-test.true c.index-jobs-k.is
          c.index-jobs-k-in-loop-k.is refl c.first_time-time.ensures (to_z-of_z w64 _ (search rules) ∙ ap (λ y. y.due) (sym c.index-jobs-k-in-loop-k.is)) c.loop-k.invariant.each;
    }
