-- The goals of `put_arcs` that are proved by lemmas.
use Rattle.msp_grammar.specs.InstanceText.{line_text, arc_fields}
use Rattle.msp_instance.specs.declared.Arc.{Arc}
use Rattle.msp_grammar.proofs.PrintLemmas.{put_lines}
use Rattle.msp_grammar.proofs.instance_printer.put_arcs.Goals as goal

pub loop-arc-preserved : goal.loop-arc-preserved
loop-arc-preserved c = put_lines (λ (a : Arc). line_text (arc_fields c.args.names.now a)) c.args.arcs.now c.loop-arc.arc-index _ _ _ _ c.loop-arc-test.true c.in_ok-put_arc.ensures c.loop-arc.invariant
