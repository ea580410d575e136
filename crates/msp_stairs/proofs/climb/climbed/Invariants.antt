use Rattle.msp_stairs.specs.Steps.{HasClimbed}
use Rattle.msp_stairs.proofs.climb.climbed.Given as goal

-- the jobs so far are laid
abbrev pub invariant-loop-place : goal.invariant-loop-place
invariant-loop-place l = HasClimbed l.inst l.order l.limits l.place l.stairs.items l.pieces
