-- The goals of `put_steps` that are proved by lemmas.
use Rattle.msp_grammar.specs.InstanceText.{step_fields}
use Rattle.msp_grammar.proofs.PrintLemmas.{put_fields}
use Rattle.msp_grammar.proofs.instance_printer.put_steps.Goals as goal

pub loop-step-preserved : goal.loop-step-preserved
loop-step-preserved c = put_fields step_fields c.args.steps.now c.loop-step.step-index _ _ _ _ c.loop-step-test.true c.in_ok-put_step.ensures c.loop-step.invariant
