use Rattle.std.proofs.Common.{length, sym, ap₂, ◌∙◌, arith}
use Rattle.std.proofs.lemmas.Result.{IfOk-weaker}
use Rattle.msp_places.specs.Assigned.{in_columns}
use Rattle.msp_places.proofs.AssignedFacts.{IsByDues-from, small, listed_many, has_costs, least_assigned}
use Rattle.msp_places.proofs.late.least_pieces.Goals as goal

pub invariant_of-table-clause-jobs : goal.invariant_of-table-clause-jobs
invariant_of-table-clause-jobs c = let d = IsByDues-from c.args.inst.now c.requires.class c.requires.inner in omega (arith, d.is.few)

pub invariant_of-table-clause-listed : goal.invariant_of-table-clause-listed
invariant_of-table-clause-listed c =
    let d = IsByDues-from c.args.inst.now c.requires.class c.requires.inner in
    omega (arith, d.is.few, listed_many c.args.inst.now d c.requires.inner c.args.unit c.requires.unit c.requires.small _ c.in_ok-places.ensures _ c.as_slice.ensures.value)

pub invariant_of-table-clause-small : goal.invariant_of-table-clause-small
invariant_of-table-clause-small c =
    small c.args.inst.now (IsByDues-from c.args.inst.now c.requires.class c.requires.inner) c.requires.inner c.args.unit c.requires.unit c.requires.small _ c.in_ok-places.ensures

pub assigned-requires-clause-costs : goal.assigned-requires-clause-costs
assigned-requires-clause-costs c = has_costs c.args.inst.now (IsByDues-from c.args.inst.now c.requires.class c.requires.inner)
    c.requires.inner c.args.unit c.requires.unit c.requires.small _ c.in_ok-places.ensures _ c.as_slice.ensures.value

pub returns : goal.returns
returns c =
    IfOk-weaker c.pieces_in.result _ _
    (λ pieces e. least_assigned c.args.inst.now (IsByDues-from c.args.inst.now c.requires.class c.requires.inner) c.requires.inner c.args.unit c.requires.unit
    c.requires.small _ c.in_ok-places.ensures _ c.as_slice.ensures.value _ c.in_ok-column.ensures.assigned pieces c.in_ok-column.ensures.least
    (e ∙ ap₂ (λ places column. in_columns (length column) places column) (c.as_slice-2.ensures.value ∙ sym c.as_slice.ensures.value) c.as_slice-3.ensures)) c.pieces_in.ensures
