use Rattle.std.proofs.Common.{◌≡◌, refl}
use Rattle.msp_assign.proofs.Filling.{each_push}
use Rattle.msp_assign.proofs.search.all_columns.Goals as goal

pub loop-column-preserved : goal.loop-column-preserved
loop-column-preserved c =
    let n = each_push (λ c x. x ≡ c) _ _ _ 0 _ c.in_ok-push.ensures.items c.loop-column.invariant.size c.loop-column.invariant.each refl in
    record { size = n.0; each = n.1 }
