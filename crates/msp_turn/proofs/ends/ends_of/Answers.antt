-- One more piece raises the end of its job.
use Rattle.std.proofs.Common.{refl, arith}
use Rattle.msp_turn.proofs.EndOrder.{no_piece, length-ends_over, ends_over-next}
use Rattle.msp_turn.proofs.ends.ends_of.Goals as goal

pub raise-requires : goal.raise-requires
raise-requires c = omega (arith, c.requires c.loop-piece.piece-index no_piece c.loop-piece-test.true, length-ends_over _ _ _ c.loop-piece.invariant)

pub loop-piece-preserved : goal.loop-piece-preserved
loop-piece-preserved c = ends_over-next _ _ _ c.args.pieces.now c.loop-piece.piece-index _ _ c.loop-piece-test.true refl
    (c.requires c.loop-piece.piece-index _ c.loop-piece-test.true) c.raise.ensures c.loop-piece.invariant
