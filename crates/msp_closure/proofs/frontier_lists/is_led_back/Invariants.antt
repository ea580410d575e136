-- What the loop of `is_led_back` keeps.
use Rattle.std.proofs.Common.{◌-◌, ◌≤◌}
use Rattle.msp_class.specs.declared.ranks.TheConstants.{CLASSES}
use Rattle.msp_closure.proofs.FrontierLemmas.{LedBackBelow}
use Rattle.msp_closure.proofs.frontier_lists.is_led_back.Given as goal

abbrev pub invariant-reached : goal.invariant-reached
invariant-reached l = LedBackBelow l.set l.c l.from × (l.from ≤ CLASSES)

abbrev pub decreases-reached : goal.decreases-reached
decreases-reached l = CLASSES - l.from
