use Rattle.std.proofs.Common.{◌≡◌, ◌≤◌, max, min, fold, take}
use Rattle.msp_class.specs.declared.sizes.TheConstants.{GREATEST_SPEED}
use Rattle.msp_uniform.proofs.unit.gap_of.Given as goal

-- the greatest and the least of the speeds so far
abbrev pub invariant-loop-speed : goal.invariant-loop-speed
invariant-loop-speed l = record {
  value : l.greatest ≡ fold max 0 (take l.speed-index l.speeds);
  size : l.greatest ≤ GREATEST_SPEED;
}

abbrev pub invariant-loop-speed-2 : goal.invariant-loop-speed-2
invariant-loop-speed-2 l = record {
  value : l.least ≡ fold min l.greatest (take l.speed-index l.speeds);
  size : l.least ≤ l.greatest;
}
