-- The differences fit their type.
use Rattle.std.proofs.Common.{ap₂}
use Rattle.std.proofs.Common.{ℤ}
use Rattle.msp_pieces.specs.declared.Piece.{Piece}
use Rattle.msp_turn.proofs.Moments.{difference_is}
use Rattle.msp_turn.proofs.reversal.reverse.Goals as goal

abbrev placed : Piece → ℤ → ℤ → Piece
placed p from to = record p { from = from; to = to }

pub returns : goal.returns
returns c =
    let p = c.args.piece.now in
    ap₂ (placed p) (difference_is c.args.last p.to c.requires.last c.ranges.last c.requires.moments.1) (difference_is c.args.last p.from c.requires.last c.ranges.last c.requires.moments.0)
