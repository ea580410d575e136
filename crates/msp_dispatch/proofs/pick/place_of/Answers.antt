use Rattle.std.proofs.Common.{◌≢◌, Some, arith}
use Rattle.std.specs.Prelude.{slice_get}
use Rattle.msp_dispatch.specs.Solved.{solved_classes}
use Rattle.msp_dispatch.proofs.Picks.{not_listed, not_there, places_next}
use Rattle.msp_dispatch.proofs.pick.place_of.Goals as goal

pub returns-clause-none : goal.returns-clause-none
returns-clause-none c = not_listed c.args.class c.loop-place.place (omega (arith, c.loop-place-test.false)) c.loop-place.invariant

pub loop-place-preserved : goal.loop-place-preserved
loop-place-preserved c = places_next (λ k. slice_get solved_classes k ≢ Some c.args.class)
    c.loop-place.place c.loop-place.invariant (not_there c.stands_at.result _ c.if-stands_at.false c.stands_at.ensures)
