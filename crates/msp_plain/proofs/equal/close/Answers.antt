-- The sweep past one more piece, which is closed.
use Rattle.std.proofs.Common.{rules, ◌≡◌, ◌<◌, length, get_or, pos}
use Rattle.msp_pieces.specs.declared.Piece.{Piece}
use Rattle.msp_plain.proofs.Sweeps.{IsPast, IsPast-read, small_from, small_to, IsSweeping-next}
use Rattle.msp_plain.proofs.equal.close.Goals as goal

abbrev none : Piece
none = record { job = 0; op = 0; machine = 0; from = pos 0; to = pos 0 }

inside : (c : goal.After-sweep-in-loop-piece-1) → c.loop-piece.piece-index < length c.args.pieces.now
inside c = search rules

long : (c : goal.After-sweep-in-loop-piece-1) → length c.loop-piece.pieces ≡ length c.args.pieces.now
long c = search rules

past : (c : goal.After-sweep-in-loop-piece-1)
    → IsPast c.args.time c.args.pieces.now c.loop-piece.piece-index (get_or c.loop-piece.pieces c.loop-piece.piece-index none) c.past-sweep.result.reach c.past-sweep.result.idle
past c = IsPast-read c.args.time c.args.pieces.now c.loop-piece.pieces c.requires.span c.requires.sorted c.loop-piece.piece-index none
    (inside c) _ _ _ _ c.requires.small c.loop-piece.invariant (long c) c.past-sweep.ensures.reach c.past-sweep.ensures.idle

pub closed_piece-requires-clause-begins : goal.closed_piece-requires-clause-begins
closed_piece-requires-clause-begins c = (past c).begins

pub closed_piece-requires-clause-ends : goal.closed_piece-requires-clause-ends
closed_piece-requires-clause-ends c = (past c).ends

pub closed_piece-requires-clause-small_from : goal.closed_piece-requires-clause-small_from
closed_piece-requires-clause-small_from c = small_from c.args.time c.args.pieces.now c.loop-piece.pieces c.requires.span c.requires.sorted c.loop-piece.piece-index none
    (inside c) _ _ _ _ c.requires.small c.loop-piece.invariant (long c) c.past-sweep.ensures.reach c.past-sweep.ensures.idle

pub closed_piece-requires-clause-small_to : goal.closed_piece-requires-clause-small_to
closed_piece-requires-clause-small_to c = small_to c.args.time c.args.pieces.now c.loop-piece.pieces c.requires.span c.requires.sorted c.loop-piece.piece-index none
    (inside c) _ _ _ _ c.requires.small c.loop-piece.invariant (long c) c.past-sweep.ensures.reach c.past-sweep.ensures.idle

pub loop-piece-preserved : goal.loop-piece-preserved
loop-piece-preserved c = IsSweeping-next c.args.time c.args.pieces.now c.loop-piece.pieces c.requires.span c.requires.sorted c.loop-piece.piece-index none
    (search rules) _ _ _ _ c.requires.small c.loop-piece.invariant (search rules) c.past-sweep.ensures.reach c.past-sweep.ensures.idle _ c.closed_piece.ensures
