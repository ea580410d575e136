-- The goals of `put_misfit` that are proved by lemmas.
use Rattle.std.proofs.Common.{ap, sym}
use Rattle.msp_top.specs.Note.{usage_note}
use Rattle.msp_top.proofs.PutsLemmas.{puts-along}
use Rattle.msp_top.proofs.notes.put_misfit.Goals as goal

pub returns-in-Form : goal.returns-in-Form
returns-in-Form g c = puts-along _ _ _ _ _ (sym (ap usage_note c.in-Form.is)) c.write_all.ensures.put

pub returns-in-Number : goal.returns-in-Number
returns-in-Number g c = puts-along _ _ _ _ _ (sym (ap usage_note c.in-Number.is)) c.put_misnumbered.ensures
