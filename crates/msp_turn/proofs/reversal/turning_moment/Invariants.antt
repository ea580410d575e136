-- The moment is the one of the pieces before the place.
use Rattle.std.proofs.Common.{◌≡◌, map, take, fold, pos}
use Rattle.std.specs.Int.{int_max}
use Rattle.msp_turn.specs.laws.ReversalLaw.{reach}
use Rattle.msp_turn.proofs.reversal.turning_moment.Given as goal

abbrev pub invariant-loop-piece : goal.invariant-loop-piece
invariant-loop-piece l = l.last ≡ fold int_max (pos 0) (map (reach l.inst l.s.unit) (take l.piece-index l.s.pieces))
