-- The goals of `put_operations` that are proved by lemmas.
use Rattle.msp_grammar.specs.InstanceText.{operation_fields}
use Rattle.msp_grammar.proofs.PrintLemmas.{put_fields}
use Rattle.msp_grammar.proofs.instance_printer.put_operations.Goals as goal

pub loop-need-preserved : goal.loop-need-preserved
loop-need-preserved c = put_fields (operation_fields c.args.timed) c.args.needs.now c.loop-need.need-index _ _ _ _ c.loop-need-test.true c.in_ok-put_operation.ensures c.loop-need.invariant
