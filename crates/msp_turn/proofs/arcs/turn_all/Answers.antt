-- One more arc is turned.
use Rattle.std.proofs.Common.{rules}
use Rattle.msp_turn.specs.Turned.{turned_arc}
use Rattle.msp_route.proofs.InPlace.{changed_next}
use Rattle.msp_turn.proofs.arcs.turn_all.Goals as goal

pub loop-arc-preserved : goal.loop-arc-preserved
loop-arc-preserved c = changed_next turned_arc c.args.arcs.now c.loop-arc.arcs c.loop-arc.arc-index _ c.turn.new.arc (search rules) c.loop-arc.invariant c.turn.ensures
