-- The goals of `put_uncertified` that are proved by lemmas.
use Rattle.std.proofs.Common.{ap, sym}
use Rattle.msp_top.specs.Cannots.{uncertified_text}
use Rattle.msp_top.proofs.PutsLemmas.{puts-along}
use Rattle.msp_top.proofs.notes.put_uncertified.Goals as goal

pub returns-in-NoCertificate : goal.returns-in-NoCertificate
returns-in-NoCertificate g c = puts-along _ _ _ _ _ (sym (ap uncertified_text c.in-NoCertificate.is)) c.put_to_class.ensures

pub returns-in-Unfit : goal.returns-in-Unfit
returns-in-Unfit g c = puts-along _ _ _ _ _ (sym (ap uncertified_text c.in-Unfit.is)) c.put_cannot.ensures
