-- One more step is stretched.
use Rattle.std.proofs.Common.{rules}
use Rattle.msp_instance.specs.declared.Step.{Step}
use Rattle.msp_route.proofs.InPlace.{changed_next}
use Rattle.msp_machines.specs.Unrelated.{stretched_step}
use Rattle.msp_machines.proofs.unrelated.stretch_steps.Goals as goal

pub loop-step-preserved : goal.loop-step-preserved
loop-step-preserved c = let none : Step = record { above = 0; add = 0 } in
    changed_next (stretched_step c.args.factor) c.args.steps.now c.loop-step.steps c.loop-step.step-index none c.stretch_step.new.step (search rules) c.loop-step.invariant c.stretch_step.ensures
