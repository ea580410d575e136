use Rattle.std.proofs.Common.{◌≡◌, arith, subst}
use Rattle.msp_assign.proofs.Passes.{IsPassing, IsPassing-start, IsPassing-next, IsPassedOn-end}
use Rattle.msp_assign.proofs.augmenting.pass_on.Goals as goal

pub back-init : goal.back-init
back-init c = IsPassing-start _ _ _ c.requires

pub back-preserved : goal.back-preserved
back-preserved c = IsPassing-next _ _ _ c.requires c.back.columns c.swap.new.self c.back.place c.back.invariant
    (omega (arith, c.back-test.true)) c.swap.ensures.by_index c.swap.ensures.permutation c.swap.ensures.len

pub returns : goal.returns
returns c =
    let zero : c.back.place ≡ 0 = omega (arith, c.back-test.false) in
    IsPassedOn-end _ _ _ c.requires c.back.columns (subst (IsPassing c.args.columns.now c.args.from.now c.args.tree.now c.back.columns) zero c.back.invariant)
