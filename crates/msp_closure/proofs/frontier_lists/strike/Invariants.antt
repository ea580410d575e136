-- What the loop of `strike` keeps.
use Rattle.std.proofs.Common.{◌-◌, ◌≤◌}
use Rattle.msp_class.specs.declared.ranks.TheConstants.{CLASSES}
use Rattle.msp_closure.proofs.FrontierLemmas.{Struck}
use Rattle.msp_closure.proofs.frontier_lists.strike.Given as goal

abbrev pub invariant-reached : goal.invariant-reached
invariant-reached l = Struck l.c l.fn.left l.left l.from × (l.from ≤ CLASSES)

abbrev pub decreases-reached : goal.decreases-reached
decreases-reached l = CLASSES - l.from
