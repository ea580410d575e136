-- The goals of `is_beaten` that are proved by lemmas.
use Rattle.msp_closure.proofs.FrontierLemmas.{beaten, not_beaten}
use Rattle.msp_closure.proofs.frontier_lists.is_beaten.Goals as goal

pub returns-then-at-clause-beaten : goal.returns-then-at-clause-beaten
returns-then-at-clause-beaten c = beaten c.args.set.now c.args.c c.is_led_back.result c.is_led_back.ensures

pub returns-then-at-clause-not_beaten : goal.returns-then-at-clause-not_beaten
returns-then-at-clause-not_beaten c = λ left has. not_beaten c.args.set.now c.args.c c.is_led_back.result c.is_led_back.ensures has left
