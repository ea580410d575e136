use Rattle.msp_assign.proofs.Gathering.{IsGathering}
use Rattle.msp_assign.proofs.search.gather.Given as goal

-- the columns so far
abbrev pub invariant-loop-k : goal.invariant-loop-k
invariant-loop-k l = IsGathering l.distance l.initial.left l.left l.far l.k l.near
