-- The goals of `put_note` that are proved by lemmas.
use Rattle.std.proofs.Common.{ap, sym}
use Rattle.msp_top.specs.Note.{note_text}
use Rattle.msp_top.proofs.PutsLemmas.{puts-along}
use Rattle.msp_top.proofs.notes.put_note.Goals as goal

pub returns-in-TooLong : goal.returns-in-TooLong
returns-in-TooLong g c = puts-along _ _ _ _ _ (sym (ap note_text c.in-TooLong.is)) c.put_too_long.ensures

pub returns-in-CannotRead : goal.returns-in-CannotRead
returns-in-CannotRead g c = puts-along _ _ _ _ _ (sym (ap note_text c.in-CannotRead.is)) c.write_all-in-CannotRead.ensures.put
