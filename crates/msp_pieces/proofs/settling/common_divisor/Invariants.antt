use Rattle.std.proofs.Common.{take}
use Rattle.msp_pieces.specs.Divisor.{IsCommonDivisor}
use Rattle.msp_pieces.proofs.settling.common_divisor.Given as goal

abbrev pub invariant-loop-piece : goal.invariant-loop-piece
invariant-loop-piece l = IsCommonDivisor l.s.unit (take l.piece-index l.pieces) l.divisor
