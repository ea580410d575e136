use Rattle.std.proofs.Common.{subst}
use Rattle.msp_cert.specs.Worth.{IsWorth}
use Rattle.msp_cert.proofs.Decided.{shows_some, shows_none}
use Rattle.msp_cert.proofs.worth.shows.Goals as goal

pub returns-in-Some : goal.returns-in-Some
returns-in-Some c = λ i p w. shows_some i c.args.bound.now c.in-Some.value p _ (subst (IsWorth i p) c.in-Some.is w) c.is_at_most.ensures

pub returns-in-None : goal.returns-in-None
returns-in-None c = λ i p w. shows_none i c.args.bound.now p (subst (IsWorth i p) c.in-None.is w)
