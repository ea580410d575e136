use Rattle.std.proofs.Common.{◌∙◌, refl, rules}
use Rattle.std.proofs.lemmas.Int.{to_z-of_z}
use Rattle.std.specs.Int.{w128}
use Rattle.msp_slots.proofs.SlotSteps.{seats-next}
use Rattle.msp_slots.proofs.slot.put_pieces.Goals as goal

pub loop-machine-preserved : goal.loop-machine-preserved
loop-machine-preserved c =
    let more = c.in_ok-put.ensures.put in
    seats-next _ _ c.args.pieces.now c.args.taken.now c.loop-machine.machine _ c.args.moment _ _ more (to_z-of_z w128 _ (search rules) ∙ c.from.ensures)
    (to_z-of_z w128 _ (search rules) ∙ c.from-in-loop-machine.ensures) c.loop-machine-test.true refl c.loop-machine.invariant
