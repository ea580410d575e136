use Rattle.std.proofs.Common.{◌≡◌, length, subst, arith, rules}
use Rattle.msp_class.proofs.Sums.{missing}
use Rattle.msp_assign.specs.Search.{sizes}
use Rattle.msp_assign.specs.Square.{IsFreeCheapest}
use Rattle.msp_assign.proofs.Squares.{IsPlaced-free}
use Rattle.msp_assign.proofs.square.place.Goals as goal

pub place_row-requires-clause-free : goal.place_row-requires-clause-free
place_row-requires-clause-free g c =
    missing (g.C.Costs.column_count c.args.costs.now) c.args.column_of.now.items (omega (arith, c.requires.more, c.requires.enough))

pub returns-in-Some-clause-placed : goal.returns-in-Some-clause-placed
returns-in-Some-clause-placed g c =
    let row : c.len-row.result ≡ length c.args.column_of.now.items = search rules in
    rw c.in_ok-push.ensures.items (IsPlaced-free _ _ _ _ _ c.requires.placed c.requires.marked _
    (subst (λ r. IsFreeCheapest (sizes (g.C.Costs.cost c.args.costs.now)) (g.C.Costs.column_count c.args.costs.now) c.args.falls.now c.args.taken.now r c.in-Some.column) row c.in-Some.ensures))
