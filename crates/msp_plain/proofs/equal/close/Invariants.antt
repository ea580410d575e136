-- The sweep is past the pieces before the place, which are closed.
use Rattle.msp_plain.proofs.Sweeps.{IsSweeping}
use Rattle.msp_plain.proofs.equal.close.Given as goal

abbrev pub invariant-loop-piece : goal.invariant-loop-piece
invariant-loop-piece l = IsSweeping l.time l.initial.pieces l.pieces l.piece-index l.sweep.reach l.sweep.idle
