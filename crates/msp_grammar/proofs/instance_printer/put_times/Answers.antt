-- The goals of `put_times` that are proved by lemmas.
use Rattle.std.proofs.Common.{decimal}
use Rattle.msp_instance.specs.declared.Need.{Need}
use Rattle.msp_grammar.proofs.PrintLemmas.{put_each}
use Rattle.msp_grammar.proofs.instance_printer.put_times.Goals as goal

pub loop-need-preserved : goal.loop-need-preserved
loop-need-preserved c = put_each (λ (n : Need). decimal n.time) c.args.needs.now c.loop-need.need-index _ _ _ _ c.loop-need-test.true c.in_ok-put_number_field.ensures c.loop-need.invariant
