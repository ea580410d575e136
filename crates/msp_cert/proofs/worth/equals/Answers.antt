use Rattle.std.proofs.Common.{subst}
use Rattle.msp_cert.specs.Worth.{IsWorth}
use Rattle.msp_cert.proofs.Decided.{equals_some, equals_none}
use Rattle.msp_cert.proofs.worth.equals.Goals as goal

pub returns-in-Some : goal.returns-in-Some
returns-in-Some c = λ i p w. equals_some i c.args.cost.now c.in-Some.value p _ (subst (IsWorth i p) c.in-Some.is w) c.is_same.ensures

pub returns-in-None : goal.returns-in-None
returns-in-None c = λ i p w. equals_none i c.args.cost.now p (subst (IsWorth i p) c.in-None.is w)
