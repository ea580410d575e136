-- The goals of `put_cannot` that are proved by lemmas.
use Rattle.std.proofs.Common.{ap, sym}
use Rattle.msp_top.specs.Cannots.{cannot_text}
use Rattle.msp_top.proofs.PutsLemmas.{puts-along}
use Rattle.msp_top.proofs.notes.put_cannot.Goals as goal

pub returns-in-NoSolver : goal.returns-in-NoSolver
returns-in-NoSolver g c = puts-along _ _ _ _ _ (sym (ap cannot_text c.in-NoSolver.is)) c.put_to_class.ensures

pub returns-in-Unfit : goal.returns-in-Unfit
returns-in-Unfit g c = puts-along _ _ _ _ _ (sym (ap cannot_text c.in-Unfit.is)) c.put_to_class-in-Unfit.ensures
