use Rattle.std.proofs.Common.{take, slice_index_or}
use Rattle.msp_route.specs.Heads.{IsRaised}
use Rattle.msp_route.proofs.heads.raised.Given as goal

-- the head by the arcs so far
abbrev pub invariant-loop-arc : goal.invariant-loop-arc
invariant-loop-arc l = IsRaised l.inst (take l.arc-index l.entering) (λ j. slice_index_or l.heads j 0) l.job l.head
