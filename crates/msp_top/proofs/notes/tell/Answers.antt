-- The goals of `tell` that are proved by lemmas.
use Rattle.msp_top.proofs.PutsLemmas.{told}
use Rattle.msp_top.proofs.notes.tell.Goals as goal

pub returns : goal.returns
returns g c = told _ _ _ _ c.put_line.ensures
