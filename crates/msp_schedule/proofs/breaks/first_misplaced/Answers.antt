use Rattle.std.proofs.Common.{arith, below_more}
use Rattle.std.proofs.lemmas.List.Elements.{All-from_get_or}
use Rattle.msp_pieces.specs.Feasible.{HasPlace}
use Rattle.msp_pieces.specs.Piece.{no_piece, piece_at}
use Rattle.msp_schedule.proofs.breaks.first_misplaced.Goals as goal

pub returns-clause-none : goal.returns-clause-none
returns-clause-none c = λ e. All-from_get_or (HasPlace c.args.inst.now)
    c.args.pieces.now no_piece (λ k l. c.loop-at.invariant k (let e = c.loop-at.auto.at-end in let t = c.loop-at-test.false in omega (arith, l, e, t)))

pub loop-at-preserved : goal.loop-at-preserved
loop-at-preserved c = below_more (λ k. HasPlace c.args.inst.now (piece_at c.args.pieces.now k)) c.loop-at.at c.loop-at.invariant (c.has_place.ensures.0 c.if-not-has_place.false)
