use Rattle.msp_route.proofs.Raising.{IsHeaded}
use Rattle.msp_route.proofs.heads.put_heads.Given as goal

-- the jobs before the place have their heads
abbrev pub invariant-loop-place : goal.invariant-loop-place
invariant-loop-place l = IsHeaded l.inst l.order l.place l.heads
