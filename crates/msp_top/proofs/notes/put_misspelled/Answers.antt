-- The goals of `put_misspelled` that are proved by lemmas.
use Rattle.std.proofs.Common.{◌++◌, ◌∙◌, codes, decimal}
use Rattle.msp_name.specs.Faults.{fault_text}
use Rattle.msp_top.proofs.PutsLemmas.{puts-along, puts-exit, puts-stop, puts-then}
use Rattle.msp_top.proofs.notes.put_misspelled.Goals as goal

pub returns-in_err-put_numbered : goal.returns-in_err-put_numbered
returns-in_err-put_numbered g c = puts-exit _ _ _ ((codes "usage: word " ++ decimal c.args.place) ++ (codes ": name: ")) (fault_text c.args.fault)
    c.from_residual.result _ c.from_residual.ensures.1 (puts-stop _ _ (codes "usage: word " ++ decimal c.args.place) (codes ": name: ") _ _ c.in_err-put_numbered.ensures)

pub returns-in_err-write_all : goal.returns-in_err-write_all
returns-in_err-write_all g c = puts-exit _ _ _ ((codes "usage: word " ++ decimal c.args.place) ++ (codes ": name: "))
    (fault_text c.args.fault) c.from_residual-in_err-write_all.result _ c.from_residual-in_err-write_all.ensures.1
    (puts-then g.met.E.Sink.lawful _ _ _ (codes "usage: word " ++ decimal c.args.place) (codes ": name: ") _ _ c.in_ok-put_numbered.ensures c.in_err-write_all.ensures.put)

pub returns : goal.returns
returns g c = puts-then g.met.E.Sink.lawful _ _ _ ((codes "usage: word " ++ decimal c.args.place) ++ (codes ": name: ")) (fault_text c.args.fault)
    _ _ (puts-then g.met.E.Sink.lawful _ _ _ (codes "usage: word " ++ decimal c.args.place) (codes ": name: ") _ _ c.in_ok-put_numbered.ensures c.in_ok-write_all.ensures.put)
    (puts-along _ _ _ _ _ (c.bytes.ensures ∙ c.text.ensures.text) c.write_all-2.ensures.put)
