use Rattle.std.proofs.Common.{length, ◌∙◌}
use Rattle.msp_assign.proofs.Lists.{whole_slice}
use Rattle.msp_assign.proofs.Normal.{IsPlacement-read}
use Rattle.msp_assign.proofs.square.placed_from.Goals as goal

pub returns : goal.returns
returns g c =
    IsPlacement-read (g.C.Costs.row_count c.args.costs.now) (g.C.Costs.column_count c.args.costs.now) (g.C.Costs.cost c.args.costs.now) c.args.begun.now
    c.in_ok-falls.field-0.falls.items c.as_slice.result.now c.as_mut_slice.result.now _ _ c.normalise.new.falls _ _ _
    c.requires.square c.requires.costs c.in_ok-falls.ensures.placed c.in_ok-falls.ensures.all
    c.as_slice.ensures.value c.as_mut_slice.ensures.value
    (whole_slice c.in_ok-falls.field-0.falls.len (length c.normalise.new.falls) c.normalise.new.falls c.in_ok-falls.field-0.falls.items (c.normalise.auto.falls ∙ c.as_mut_slice.ensures.len))
    c.least_together-least.ensures c.normalise.ensures c.columns.ensures c.in_ok-columns.ensures
