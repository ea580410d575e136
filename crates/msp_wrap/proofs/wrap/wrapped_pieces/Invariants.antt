use Rattle.msp_wrap.specs.Laying.{IsWrapped}
use Rattle.msp_wrap.proofs.wrap.wrapped_pieces.Given as goal

-- the jobs so far are wrapped, up to the place
abbrev pub invariant-loop-k : goal.invariant-loop-k
invariant-loop-k l = IsWrapped l.inst l.end l.k l.place.machine l.place.moment l.pieces
