use Rattle.std.proofs.Common.{◌∙◌, map, pos, ◌*ℤ◌, to_z, of_z, ap, ap₂, sym, subst}
use Rattle.std.specs.Int.{w128}
use Rattle.std.proofs.lemmas.Int.{to_z-of_z}
use Rattle.msp_route.specs.Halving.{IsLeastBound}
use Rattle.msp_due.specs.Steps.{CanPlace, long_piece}
use Rattle.msp_due.proofs.Ranges.{cost_fits}
use Rattle.msp_due.proofs.Best.{IsDueAnswer, due_answer}
use Rattle.msp_due.proofs.rule.schedule_by_due_slots.Goals as goal
use Rattle.msp_due.proofs.rule.schedule_by_due_slots.Goals.{In_ok-pieces}

answer : (c : In_ok-pieces) → IsDueAnswer c.args.inst.now (record { unit = pos 1; pieces = c.in_ok-pieces.pieces }) (to_z w128 (of_z w128 c.in_ok-bound.bound))
answer c =
    let i = c.args.inst.now in
    let bound = to_z w128 (of_z w128 c.in_ok-bound.bound) in
    let least = subst (IsLeastBound (CanPlace i)) (sym (to_z-of_z w128 c.in_ok-bound.bound (cost_fits c.in_ok-bound.bound c.in_ok-bound.ensures.size))) c.in_ok-bound.ensures.least in
    subst (λ ps. IsDueAnswer i (record { unit = pos 1; pieces = ps }) bound) (sym (c.in_ok-pieces.ensures ∙ ap₂ (λ t ps. map (long_piece t) ps) c.common_time.ensures c.as_slice.ensures))
    (due_answer i c.requires.class c.requires.inner bound c.in_ok-in_slots.in_slots.slots.items c.in_ok-in_slots.in_slots.pieces c.in_ok-in_slots.ensures least)

pub returns-clause-best : goal.returns-clause-best
returns-clause-best c = let a = answer (goal.at.returns-clause-best c).In_ok-pieces in record { best = a.best; cost = ap (λ x. x *ℤ pos 1) (sym a.cost) }

pub returns-clause-bounds : goal.returns-clause-bounds
returns-clause-bounds c = (answer (goal.at.returns-clause-bounds c).In_ok-pieces).answer
