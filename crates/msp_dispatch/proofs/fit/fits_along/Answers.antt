use Rattle.std.proofs.Common.{◌<◌, length, subst}
use Rattle.msp_table.proofs.ChainLemmas.{Leads-one}
use Rattle.msp_carry.proofs.ChainSteps.{stays_at}
use Rattle.msp_dispatch.proofs.fit.fits_along.Goals as goal

pub fits-requires-clause-class : goal.fits-requires-clause-class
fits-requires-clause-class t c = stays_at _ _ _ (subst (λ rows. length rows < 1) c.as_slice.ensures c.in-empty.len_below) c.requires.chain.leads

pub fits-requires-in_default-clause-class : goal.fits-requires-in_default-clause-class
fits-requires-in_default-clause-class t c = Leads-one _ _ _ _ c.in_ok-last-in_default.ensures.class c.requires.chain.leads
