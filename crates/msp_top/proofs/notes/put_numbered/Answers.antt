-- The goals of `put_numbered` that are proved by lemmas.
use Rattle.std.proofs.Common.{decimal}
use Rattle.msp_top.proofs.PutsLemmas.{puts-exit, puts-then}
use Rattle.msp_top.proofs.notes.put_numbered.Goals as goal

pub returns-in_err-write_all : goal.returns-in_err-write_all
returns-in_err-write_all g c = puts-exit _ _ _ c.args.head.now (decimal c.args.number) c.from_residual.result _ c.from_residual.ensures.1 c.in_err-write_all.ensures.put

pub returns : goal.returns
returns g c = puts-then g.met.E.Sink.lawful _ _ _ c.args.head.now (decimal c.args.number) _ _ c.in_ok-write_all.ensures.put c.put_number.ensures
