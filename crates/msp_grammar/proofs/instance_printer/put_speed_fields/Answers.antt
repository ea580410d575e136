-- The goals of `put_speed_fields` that are proved by lemmas.
use Rattle.std.proofs.Common.{decimal}
use Rattle.msp_grammar.proofs.PrintLemmas.{put_each}
use Rattle.msp_grammar.proofs.instance_printer.put_speed_fields.Goals as goal

pub loop-speed-preserved : goal.loop-speed-preserved
loop-speed-preserved c = put_each decimal c.args.speeds.now c.loop-speed.speed-index _ _ _ _ c.loop-speed-test.true c.in_ok-put_number_field.ensures c.loop-speed.invariant
