use Rattle.std.proofs.Common.{refl}
use Rattle.std.proofs.lemmas.List.{get_or_default}
use Rattle.msp_lexical.proofs.Seating.{IsSeating-none, IsSeating-next, seat_small}
use Rattle.msp_lexical.proofs.segment.seats_of.Goals as goal

pub loop-piece-init : goal.loop-piece-init
loop-piece-init c = IsSeating-none c.args.jobs

pub loop-piece-preserved : goal.loop-piece-preserved
loop-piece-preserved c =
    let pieces = c.args.pieces.now in
    let k = c.loop-piece.piece-index in
    IsSeating-next c.args.jobs pieces k _ c.seat_of.result _ c.loop-piece.seats c.loop-piece-test.true (get_or_default pieces k _ _ c.loop-piece-test.true) c.seat_of.ensures refl
    (seat_small c.args.jobs _ c.requires.few (c.requires.seated k _ c.loop-piece-test.true)) c.requires.apart c.loop-piece.invariant
