use Rattle.std.proofs.Common.{◌≡◌, arith, lit<, refl, length}
use Rattle.msp_assign.specs.Passing.{at}
use Rattle.msp_assign.proofs.Bounds.{paid-at_most}
use Rattle.msp_assign.proofs.Relaxed.{IsRelaxing-next, IsRelaxed-from_all, IsNear-relaxed}
use Rattle.msp_assign.proofs.search.relax.Goals as goal

pub loop-k-preserved : goal.loop-k-preserved
loop-k-preserved g c =
    IsRelaxing-next _ _ _ _ _ _ _ _ _ c.requires.apart _ _ _ _ _ _ _ c.loop-k.invariant c.loop-k-test.true _ _ _ _ refl c.way_over-far.ensures c.shorten-shortest.ensures c.min-least.ensures

pub returns : goal.returns
returns g c =
    let all : c.loop-k.k ≡ length c.args.left.now = omega (arith, c.loop-k-test.false, c.loop-k.auto.k-end, c.requires.near.inside) in
    let first = paid-at_most (g.C.Costs.row_count c.args.costs.now) (g.C.Costs.column_count c.args.costs.now) (g.C.Costs.cost c.args.costs.now)
    c.args.falls.now c.requires.edges.costs c.requires.edges.low c.args.reached.row (at c.args.left.now 0) c.requires.edges.inside (c.requires.inside 0 0 c.requires.some) in
    let near = IsNear-relaxed _ _ _ _ _ _ _ _ _ _ c.requires.near
    (λ j l. c.requires.edges.least (at c.args.left.now j) (c.requires.inside j 0 l)) _ _ _ _ _ all c.loop-k.invariant c.requires.some c.requires.edges.near first (lit< tt) in
    record { relaxed = IsRelaxed-from_all _ _ _ _ _ _ _ _ _ _ _ _ _ _ all c.loop-k.invariant; near = near.0; reached = near.1 }
