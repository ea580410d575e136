-- The goals of `put_job_line` that are proved by lemmas.
use Rattle.std.proofs.Common.{◌∷◌}
use Rattle.msp_grammar.specs.InstanceText.{key_fields}
use Rattle.msp_grammar.proofs.PrintLemmas.{on_ok, line_put}
use Rattle.msp_grammar.proofs.instance_printer.put_job_line.Goals as goal

pub returns : goal.returns
returns c =
    on_ok _
    (line_put _ _ _ _ _
    (c.args.name.now ∷ key_fields c.args.class c.args.job.now)
    c.in_ok-put.ensures.added
    c.in_ok-put_job_fields.ensures)
    c.put-2.ensures.added
