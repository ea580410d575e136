-- The goals of `put_curve_line` that are proved by lemmas.
use Rattle.std.proofs.Common.{codes, ◌∷◌, decimal}
use Rattle.std.specs.Fmt.{signed_decimal}
use Rattle.std.specs.List.{flat_map}
use Rattle.msp_grammar.specs.InstanceText.{step_fields}
use Rattle.msp_grammar.proofs.PrintLemmas.{on_ok, line_put}
use Rattle.msp_grammar.proofs.instance_printer.put_curve_line.Goals as goal

pub returns : goal.returns
returns c =
    let v = c.args.curve.now in
    on_ok _
    (line_put _ _ _ _ (codes "curve")
    (decimal v.slope ∷ signed_decimal v.base ∷ flat_map step_fields v.steps)
    c.in_ok-put.ensures.added
    c.in_ok-put_curve_fields.ensures)
    c.put-2.ensures.added
