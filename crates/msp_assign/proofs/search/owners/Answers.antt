use Rattle.std.proofs.Common.{subst, arith}
use Rattle.msp_assign.proofs.Owners.{IsOwnersBelow, IsOwnersBelow-next, IsOwners-from_below}
use Rattle.msp_assign.proofs.search.owners.Goals as goal

pub loop-row-preserved : goal.loop-row-preserved
loop-row-preserved c = IsOwnersBelow-next _ _ _ _ c.loop-row.invariant (c.requires.inside c.loop-row.row 0 c.loop-row-test.true)

pub returns : goal.returns
returns c =
    IsOwners-from_below _ _ _ (subst (λ k. IsOwnersBelow c.args.columns k c.args.column_of.now c.loop-row.owner.items)
    (omega (arith, c.loop-row-test.false, c.loop-row.auto.row-end)) c.loop-row.invariant)
