use Rattle.std.proofs.Common.{sym, subst}
use Rattle.msp_instance.specs.Conditions.{LiesWithin}
use Rattle.msp_route.specs.Halving.{IsLeastBound}
use Rattle.msp_threshold.specs.Squeezed.{greatest_bound, CanMeet}
use Rattle.msp_threshold.proofs.Bounds.{narrow_is}
use Rattle.msp_threshold.proofs.search.least_bound.Goals as goal

pub returns-clause-least : goal.returns-clause-least
returns-clause-least g c = subst (IsLeastBound (CanMeet c.args.inst.now)) (sym (narrow_is c.in_ok-least.least c.in_ok-least.ensures.small)) c.in_ok-least.ensures.least

pub returns-clause-small : goal.returns-clause-small
returns-clause-small g c = subst (LiesWithin greatest_bound) (sym (narrow_is c.in_ok-least.least c.in_ok-least.ensures.small)) c.in_ok-least.ensures.small
