-- The goals of `put_line` that are proved by lemmas.
use Rattle.std.proofs.Common.{codes, ◌++◌}
use Rattle.msp_top.specs.Note.{note_text}
use Rattle.msp_top.proofs.PutsLemmas.{puts-exit, puts-stop, puts-then}
use Rattle.msp_top.proofs.notes.put_line.Goals as goal

pub returns-in_err-write_all : goal.returns-in_err-write_all
returns-in_err-write_all g c = puts-exit _ _ _ ((codes "msp: ") ++ (note_text c.args.note.now)) (codes "\n")
    c.from_residual.result _ c.from_residual.ensures.1 (puts-stop _ _ (codes "msp: ") (note_text c.args.note.now) _ _ c.in_err-write_all.ensures.put)

pub returns-in_err-put_note : goal.returns-in_err-put_note
returns-in_err-put_note g c = puts-exit _ _ _ ((codes "msp: ") ++ (note_text c.args.note.now)) (codes "\n") c.from_residual-in_err-put_note.result _ c.from_residual-in_err-put_note.ensures.1
    (puts-then g.met.E.Sink.lawful _ _ _ (codes "msp: ") (note_text c.args.note.now) _ _ c.in_ok-write_all.ensures.put c.in_err-put_note.ensures)

pub returns : goal.returns
returns g c = puts-then g.met.E.Sink.lawful _ _ _ ((codes "msp: ") ++ (note_text c.args.note.now)) (codes "\n")
    _ _ (puts-then g.met.E.Sink.lawful _ _ _ (codes "msp: ") (note_text c.args.note.now) _ _ c.in_ok-write_all.ensures.put c.in_ok-put_note.ensures) c.write_all-2.ensures.put
