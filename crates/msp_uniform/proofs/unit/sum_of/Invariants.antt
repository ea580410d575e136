use Rattle.std.proofs.Common.{◌≡◌, ◌*◌, ◌≤◌, take, sum_by}
use Rattle.msp_class.specs.declared.sizes.TheConstants.{GREATEST_SPEED}
use Rattle.msp_uniform.proofs.unit.sum_of.Given as goal

-- the sum of the speeds so far
abbrev pub invariant-loop-speed : goal.invariant-loop-speed
invariant-loop-speed l = record {
  value : l.sum ≡ sum_by (λ x. x) (take l.speed-index l.speeds);
  size : l.sum ≤ GREATEST_SPEED * l.speed-index;
}
