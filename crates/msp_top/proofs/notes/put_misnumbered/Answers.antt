-- The goals of `put_misnumbered` that are proved by lemmas.
use Rattle.std.proofs.Common.{◌++◌, codes, decimal}
use Rattle.msp_top.proofs.PutsLemmas.{puts-exit, puts-stop, puts-then}
use Rattle.msp_top.proofs.notes.put_misnumbered.Goals as goal

pub returns-in_err-put_numbered : goal.returns-in_err-put_numbered
returns-in_err-put_numbered g c = puts-exit _ _ _ ((codes "usage: word " ++ decimal c.args.place) ++ (codes ": not a number from " ++ decimal c.args.least))
    (codes " to " ++ decimal c.args.greatest) c.from_residual.result _ c.from_residual.ensures.1
    (puts-stop _ _ (codes "usage: word " ++ decimal c.args.place) (codes ": not a number from " ++ decimal c.args.least) _ _ c.in_err-put_numbered.ensures)

pub returns-in_err-put_numbered-2 : goal.returns-in_err-put_numbered-2
returns-in_err-put_numbered-2 g c = puts-exit _ _ _ ((codes "usage: word " ++ decimal c.args.place) ++ (codes ": not a number from " ++ decimal c.args.least))
    (codes " to " ++ decimal c.args.greatest) c.from_residual-in_err-put_numbered-2.result _ c.from_residual-in_err-put_numbered-2.ensures.1
    (puts-then g.met.E.Sink.lawful _ _ _ (codes "usage: word " ++ decimal c.args.place)
    (codes ": not a number from " ++ decimal c.args.least) _ _ c.in_ok-put_numbered.ensures c.in_err-put_numbered-2.ensures)

pub returns : goal.returns
returns g c = puts-then g.met.E.Sink.lawful _ _ _ ((codes "usage: word " ++ decimal c.args.place) ++ (codes ": not a number from " ++ decimal c.args.least))
    (codes " to " ++ decimal c.args.greatest) _ _
    (puts-then g.met.E.Sink.lawful _ _ _ (codes "usage: word " ++ decimal c.args.place)
    (codes ": not a number from " ++ decimal c.args.least) _ _ c.in_ok-put_numbered.ensures c.in_ok-put_numbered-2.ensures) c.put_numbered-3.ensures
