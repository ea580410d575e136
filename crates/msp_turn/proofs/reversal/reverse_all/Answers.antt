-- One more piece is reversed.
use Rattle.std.proofs.Common.{rules}
use Rattle.msp_turn.specs.Reversal.{reversed_piece}
use Rattle.msp_route.proofs.InPlace.{changed_next}
use Rattle.msp_turn.proofs.reversal.reverse_all.Goals as goal

pub loop-piece-preserved : goal.loop-piece-preserved
loop-piece-preserved c = changed_next (reversed_piece _) c.args.pieces.now c.loop-piece.pieces c.loop-piece.piece-index _ c.reverse.new.piece (search rules) c.loop-piece.invariant c.reverse.ensures
