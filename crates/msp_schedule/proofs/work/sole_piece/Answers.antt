use Rattle.std.proofs.Common.{refl, sym}
use Rattle.msp_schedule.proofs.judging.Among.{never_one-some}
use Rattle.msp_schedule.proofs.work.sole_piece.Goals as goal

pub returns-then-is_some-clause-none : goal.returns-then-is_some-clause-none
returns-then-is_some-clause-none c = λ r. never_one-some c.args.pieces.now c.loop-piece.piece-index c.args.job c.args.op _ _ r c.loop-piece.sole c.loop-piece-test.true refl
    (sym c.if-is_of.ensures) (sym c.if-is_some.ensures) c.loop-piece.invariant
