-- The goals of `put_too_long` that are proved by lemmas.
use Rattle.std.proofs.Common.{◌++◌, codes, decimal}
use Rattle.msp_top.proofs.PutsLemmas.{puts-exit, puts-then}
use Rattle.msp_top.proofs.notes.put_too_long.Goals as goal

pub returns-in_err-put_numbered : goal.returns-in_err-put_numbered
returns-in_err-put_numbered g c = puts-exit _ _ _ (codes "more than " ++ decimal c.args.limit) (codes " bytes") c.from_residual.result _ c.from_residual.ensures.1 c.in_err-put_numbered.ensures

pub returns : goal.returns
returns g c = puts-then g.met.E.Sink.lawful _ _ _ (codes "more than " ++ decimal c.args.limit) (codes " bytes") _ _ c.in_ok-put_numbered.ensures c.write_all.ensures.put
