use Rattle.msp_srpt.proofs.HeadSteps.{HaveRun}
use Rattle.msp_srpt.proofs.equal_heads.pieces_in_order.Given as goal

-- the jobs so far have their pieces
abbrev pub invariant-loop-k : goal.invariant-loop-k
invariant-loop-k l = HaveRun l.inst l.heads l.order l.k l.moment l.pieces
