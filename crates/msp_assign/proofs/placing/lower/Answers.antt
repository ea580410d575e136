use Rattle.std.proofs.Common.{◌≡◌, refl, arith, length}
use Rattle.msp_assign.proofs.Lowering.{IsLowering-next, IsLowered-end}
use Rattle.msp_assign.proofs.placing.lower.Goals as goal

pub returns : goal.returns
returns c =
    let all : c.loop-place.place ≡ length c.args.tree.now = omega (arith, c.loop-place-test.false, c.loop-place.auto.place-end, c.requires.some) in
    IsLowered-end _ _ _ _ _ _ _ all c.loop-place.invariant

pub loop-place-preserved : goal.loop-place-preserved
loop-place-preserved c = IsLowering-next _ _ _ _ _ c.requires.rows c.requires.once c.requires.apart c.requires.inside _ _ c.loop-place.invariant c.loop-place.auto.place c.loop-place-test.true
    _ _ refl (omega (arith, c.saturating_sub.ensures))
