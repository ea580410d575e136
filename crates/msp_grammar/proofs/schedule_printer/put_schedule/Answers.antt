-- The goal of `put_schedule` that is proved by a lemma.
use Rattle.std.proofs.Common.{List, ◌++◌, ◌∙◌, ap, rules}
use Rattle.std.specs.Int.{w128}
use Rattle.std.proofs.lemmas.Int.{to_z-of_z}
use Rattle.msp_pieces.specs.declared.Piece.{Piece}
use Rattle.msp_grammar.specs.ScheduleText.{schedule_text, unit_line, piece_lines}
use Rattle.msp_grammar.proofs.PrintLemmas.{on_ok, five_put}
use Rattle.msp_grammar.proofs.schedule_printer.put_schedule.Goals as goal

pub returns : goal.returns
unfolding schedule_text
returns c =
    let unit = to_z-of_z w128 c.args.schedule.now.unit (search rules) in
    on_ok _
    (five_put _ _ _ _ _ _ _ _ _ _ _
    c.in_ok-put.ensures.added
    c.in_ok-put_cost.ensures
    (c.in_ok-put_unit.ensures ∙ ap (λ u. c.put_cost.new.out.items ++ unit_line u) unit)
    (c.in_ok-put_pieces.ensures ∙ ap (λ (pieces : List Piece). c.put_unit.new.out.items ++ piece_lines c.args.names.now pieces) c.as_slice.ensures))
    c.put-2.ensures.added
