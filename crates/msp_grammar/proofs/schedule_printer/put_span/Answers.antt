-- The goal of `put_span` that is proved by a lemma.
use Rattle.std.proofs.Common.{rules}
use Rattle.std.specs.Int.{w128}
use Rattle.std.proofs.lemmas.Int.{to_z-of_z}
use Rattle.msp_grammar.specs.ScheduleText.{space, line_feed}
use Rattle.msp_grammar.proofs.PrintLemmas.{on_ok, span_put}
use Rattle.msp_grammar.proofs.schedule_printer.put_span.Goals as goal

pub returns : goal.returns
returns c =
    let piece = c.args.piece in
    on_ok
    c.put_all.result
    (span_put c.args.out.now.items c.put_all.new.out.items _ piece.from _ piece.to space line_feed (to_z-of_z w128 piece.from (search rules)) (to_z-of_z w128 piece.to (search rules)))
    c.put_all.ensures.added
