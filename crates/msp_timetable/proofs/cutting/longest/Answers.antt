use Rattle.std.proofs.Common.{◌≡◌, arith}
use Rattle.msp_timetable.specs.Square.{used_at}
use Rattle.msp_timetable.proofs.Lists.{least-next, some-next, min-cases, same_case}
use Rattle.msp_timetable.proofs.cutting.longest.Goals as goal

pub loop-row-preserved : goal.loop-row-preserved
loop-row-preserved c =
    let w = min-cases _ _ _ c.min-least.ensures in
    let e : c.in_use.result ≡ used_at c.args.square.now c.args.columns.now c.loop-row.row = c.in_use.ensures in
    record {
      least = least-next (used_at c.args.square.now c.args.columns.now) _ _ _ w.0 (omega (arith, w.1, e)) (same_case _ _ _ _ e w.2) c.loop-row.invariant.least;
      some = some-next (used_at c.args.square.now c.args.columns.now) _ _ _ (same_case _ _ _ _ e w.2) c.loop-row.invariant.some;
    }
