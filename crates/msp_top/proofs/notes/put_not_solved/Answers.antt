-- The goals of `put_not_solved` that are proved by lemmas.
use Rattle.std.proofs.Common.{codes, ◌∙◌}
use Rattle.msp_name.specs.Names.{name_of}
use Rattle.msp_top.proofs.PutsLemmas.{puts-along, puts-exit, puts-then}
use Rattle.msp_top.proofs.notes.put_not_solved.Goals as goal

pub returns-in_err-write_all : goal.returns-in_err-write_all
returns-in_err-write_all g c = puts-exit _ _ _ (name_of c.args.class) (codes " is not solved")
    c.from_residual.result _ c.from_residual.ensures.1 (puts-along _ _ _ _ _ (c.bytes.ensures.value ∙ c.print.ensures.text) c.in_err-write_all.ensures.put)

pub returns : goal.returns
returns g c = puts-then g.met.E.Sink.lawful _ _ _ (name_of c.args.class)
    (codes " is not solved") _ _ (puts-along _ _ _ _ _ (c.bytes.ensures.value ∙ c.print.ensures.text) c.in_ok-write_all.ensures.put) c.write_all-2.ensures.put
