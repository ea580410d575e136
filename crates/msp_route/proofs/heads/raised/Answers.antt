use Rattle.std.proofs.Common.{ℕ, get_or, slice_index_or}
use Rattle.std.proofs.lemmas.List.{get_or_default}
use Rattle.msp_instance.specs.declared.Arc.{Arc}
use Rattle.msp_route.proofs.Raising.{IsRaised-take}
use Rattle.msp_route.proofs.heads.raised.Goals as goal

pub loop-arc-preserved : goal.loop-arc-preserved
loop-arc-preserved c =
    let arcs = c.args.entering.now in
    let heads : ℕ → ℕ = λ j. slice_index_or c.args.heads.now j 0 in
    let k = c.loop-arc.arc-index in
    let a : Arc = get_or arcs k (record { before = 0; after = 0 }) in
    let at = get_or_default arcs k (record { before = 0; after = 0 }) a c.loop-arc-test.true in
    IsRaised-take c.args.inst.now arcs heads c.args.job k a c.loop-arc-test.true at c.loop-arc.head c.end_from_head.result c.max-head.result
    (c.requires.entering k (record { before = 0; after = 0 }) c.loop-arc-test.true).0 c.end_from_head.ensures c.max-head.ensures c.loop-arc.invariant
