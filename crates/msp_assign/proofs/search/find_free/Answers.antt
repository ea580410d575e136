use Rattle.std.proofs.Common.{◌∙◌, ◌<◌, arith, length}
use Rattle.std.proofs.lemmas.List.{get_or_default}
use Rattle.msp_assign.proofs.Owners.{free_from_owners, owned_from_owners}
use Rattle.msp_assign.proofs.search.find_free.Goals as goal

pub reached-init : goal.reached-init
reached-init g c = c.in_ok-search.ensures

pub settle-requires : goal.settle-requires
settle-requires g c =
    let reached = c.reached.invariant in
    let inside : c.reached.search.nearest < length c.reached.search.left.items = omega (arith, reached.nearest.inside) in
    let owned = owned_from_owners _ _ _ c.requires.owner _ _ _ (c.index.ensures ∙ get_or_default c.reached.search.left.items c.reached.search.nearest c.index.result.now 0 inside)
    (reached.search.inside c.reached.search.nearest 0 inside) c.in-Some.is in
    record { row = c.requires.row; owners = c.requires.owner.size; search = reached; inside = owned.0; has = owned.1 }

pub reached-preserved : goal.reached-preserved
reached-preserved g c = c.in_ok-settle.ensures.search

pub returns-clause-free : goal.returns-clause-free
returns-clause-free g c =
    let reached = c.reached.invariant in
    let inside : c.reached.search.nearest < length c.reached.search.left.items = omega (arith, reached.nearest.inside) in
    free_from_owners _ _ _ c.requires.owner _ _ (c.index.ensures ∙ get_or_default c.reached.search.left.items c.reached.search.nearest c.index.result.now 0 inside)
    (reached.search.inside c.reached.search.nearest 0 inside) c.in_default.not-Some

pub reached-smaller : goal.reached-smaller
reached-smaller g c = omega (arith, c.in_ok-settle.ensures.fewer)

pub returns-clause-search : goal.returns-clause-search
returns-clause-search g c = c.reached.invariant
