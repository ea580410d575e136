-- The goals of `put_to_class` that are proved by lemmas.
use Rattle.std.proofs.Common.{◌∙◌}
use Rattle.msp_name.specs.Names.{name_of}
use Rattle.msp_top.proofs.PutsLemmas.{puts-along, puts-exit, puts-then}
use Rattle.msp_top.proofs.notes.put_to_class.Goals as goal

pub returns-in_err-write_all : goal.returns-in_err-write_all
returns-in_err-write_all g c = puts-exit _ _ _ c.args.head.now (name_of c.args.class) c.from_residual.result _ c.from_residual.ensures.1 c.in_err-write_all.ensures.put

pub returns : goal.returns
returns g c = puts-then g.met.E.Sink.lawful _ _ _ c.args.head.now
    (name_of c.args.class) _ _ c.in_ok-write_all.ensures.put (puts-along _ _ _ _ _ (c.bytes.ensures.value ∙ c.print.ensures.text) c.write_all-2.ensures.put)
