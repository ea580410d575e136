use Rattle.std.proofs.Common.{false, IsPermutation, sym, subst, slice_index_or}
use Rattle.std.proofs.lemmas.List.Sorted.{IsPermutation-refl}
use Rattle.msp_route.proofs.Search.{some_open, ends_last}
use Rattle.msp_route.proofs.last_job.last_place.Goals as goal

pub unreachable-requires : goal.unreachable-requires
unreachable-requires c =
    some_open c.args.inst.now c.args.left.now c.flags_of-is_left.result (λ j. slice_index_or c.flags_before-blocked.result j false)
    c.as_slice.result.now (subst (IsPermutation c.args.inst.now.arcs) (sym c.as_slice.ensures) (IsPermutation-refl c.args.inst.now.arcs))
    c.requires.inner.conditions.few c.requires.inner.conditions.ends c.flags_of-is_left.ensures c.flags_before-blocked.ensures
    c.requires.inside c.requires.inner.acyclic c.requires.some c.in-None.ensures

pub returns-clause-last : goal.returns-clause-last
returns-clause-last c =
    ends_last c.args.inst.now c.args.left.now c.flags_of-is_left.result (λ j. slice_index_or c.flags_before-blocked.result j false)
    c.as_slice.result.now (subst (IsPermutation c.args.inst.now.arcs) (sym c.as_slice.ensures) (IsPermutation-refl c.args.inst.now.arcs))
    c.requires.inner.conditions.few c.requires.inner.conditions.ends c.flags_of-is_left.ensures c.flags_before-blocked.ensures
    c.requires.inside c.in-Some.last c.args.moment c.in-Some.ensures
