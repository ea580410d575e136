use Rattle.std.proofs.Common.{refl, rules}
use Rattle.msp_route.proofs.Pushes.{numbers-next}
use Rattle.msp_total.proofs.ColumnSteps.{columns-next}
use Rattle.msp_total.proofs.unrelated.chosen_of.Goals as goal

pub loop-k-preserved : goal.loop-k-preserved
loop-k-preserved c =
    let more = c.in_ok-push.ensures.items in
    record {
      jobs = numbers-next (λ c. c.job) _ _ _ c.loop-k.k more refl c.loop-k.invariant.jobs;
      columns = columns-next c.args.column.now _ _ _ more (search rules) c.loop-k.invariant.columns;
    }
