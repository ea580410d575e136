use Rattle.msp_total.proofs.UnrelatedBest.{chosen_inside, places_small, answer_read}
use Rattle.msp_total.proofs.unrelated.solution_at.Goals as goal
use Rattle.msp_pieces.proofs.feasible.OfClass.{IsOfClass-from}
use Rattle.msp_total.specs.Classes.{unrelated_class}

pub places_of-requires : goal.places_of-requires
places_of-requires c =
    let h = IsOfClass-from c.args.inst.now unrelated_class c.requires.class c.requires.inner in
    chosen_inside c.args.inst.now h c.args.table.now c.requires.table
    c.args.assignment.now c.requires.positions _ c.as_slice.ensures c.in_ok-chosen.chosen.items _ c.in_ok-chosen.ensures c.as_slice-2.ensures.value

pub lay-requires : goal.lay-requires
lay-requires c =
    let h = IsOfClass-from c.args.inst.now unrelated_class c.requires.class c.requires.inner in
    places_small c.args.inst.now h c.args.table.now c.requires.table c.args.assignment.now c.requires.positions _ c.as_slice.ensures c.in_ok-chosen.chosen.items
    _ c.in_ok-chosen.ensures c.as_slice-2.ensures.value c.in_ok-places.places.items c.in_ok-places.ensures _ c.as_slice-3.ensures.value

pub best_solution-requires-clause-best : goal.best_solution-requires-clause-best
best_solution-requires-clause-best c =
    let h = IsOfClass-from c.args.inst.now unrelated_class c.requires.class c.requires.inner in
    answer_read c.args.inst.now h c.args.table.now c.requires.table c.args.assignment.now c.requires.positions _ c.as_slice.ensures c.in_ok-chosen.chosen.items
    _ c.in_ok-chosen.ensures c.as_slice-2.ensures.value c.in_ok-places.places.items c.in_ok-places.ensures _ _ c.as_slice-3.ensures.value c.in_ok-pieces.ensures
