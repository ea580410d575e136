use Rattle.std.proofs.Common.{◌≡◌, get_or}
use Rattle.msp_assign.specs.View.{no_column, number_at}
use Rattle.msp_assign.proofs.Filling.{each_push}
use Rattle.msp_assign.proofs.prices.numbers.Goals as goal

pub number_of-requires : goal.number_of-requires
number_of-requires c =
    let used = c.requires.inside c.loop-row.row 0 c.loop-row-test.true in
    let inside = c.requires.columns (get_or c.args.column_of.now c.loop-row.row 0) no_column used in
    record { line = inside.0; place = inside.1; all = c.requires.all }

pub loop-row-preserved : goal.loop-row-preserved
loop-row-preserved c =
    let n = each_push (λ r x. x ≡ number_at c.args.long c.args.columns.now (get_or c.args.column_of.now r 0)) _ _ _ 0 _ c.in_ok-push.ensures.items
    c.loop-row.invariant.size c.loop-row.invariant.each c.number_of.ensures.value in
    record { size = n.0; each = n.1 }
