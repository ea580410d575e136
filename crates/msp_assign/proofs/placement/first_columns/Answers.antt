use Rattle.std.proofs.Common.{◌≡◌, refl}
use Rattle.msp_assign.specs.View.{no_column}
use Rattle.msp_assign.proofs.Filling.{each_push}
use Rattle.msp_assign.proofs.placement.first_columns.Goals as goal

pub loop-line-preserved : goal.loop-line-preserved
loop-line-preserved c =
    let n = each_push (λ l x. (x.line ≡ l) × (x.place ≡ 0)) _ _ _ no_column _ c.in_ok-push.ensures.items c.loop-line.invariant.count c.loop-line.invariant.each (refl, refl) in
    record { count = n.0; each = n.1 }
