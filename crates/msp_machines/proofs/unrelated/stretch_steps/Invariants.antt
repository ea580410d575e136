-- The steps before the place are stretched, the others are as they were.
use Rattle.std.proofs.Common.{◌≡◌, ◌++◌, map, take, drop}
use Rattle.msp_machines.specs.Unrelated.{stretched_step}
use Rattle.msp_machines.proofs.unrelated.stretch_steps.Given as goal

abbrev pub invariant-loop-step : goal.invariant-loop-step
invariant-loop-step l = l.steps ≡ map (stretched_step l.factor) (take l.step-index l.initial.steps) ++ drop l.step-index l.initial.steps
