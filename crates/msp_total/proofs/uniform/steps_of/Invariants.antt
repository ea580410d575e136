-- the steps so far
use Rattle.std.proofs.Common.{◌≡◌, ◌/◌, map, take}
use Rattle.msp_total.proofs.uniform.steps_of.Given as goal

abbrev pub invariant-loop-speed : goal.invariant-loop-speed
invariant-loop-speed l = l.steps.items ≡ map (λ s. l.fn.unit / s) (take l.speed-index l.speeds)
