use Rattle.std.proofs.Common.{◌∙◌, rules}
use Rattle.std.specs.Int.{w64, w128}
use Rattle.std.proofs.lemmas.Int.{to_z-of_z}
use Rattle.std.proofs.lemmas.Result.{IfOk-weaker}
use Rattle.msp_single.proofs.MooreSteps.{accept-kept, accept-overrun, overran, not_overran}
use Rattle.msp_single.proofs.moore.accept.Goals as goal

pub returns-then-from-clause-next : goal.returns-then-from-clause-next
returns-then-from-clause-next c =
    IfOk-weaker c.drop_longest.result _ _
    (λ _ h. accept-overrun c.args.choice.now.accepted.items c.args.choice.now.dropped.items
    c.push.new.self.items c.drop_longest.new.choice.accepted.items c.drop_longest.new.choice.dropped.items c.args.task c.args.choice.now.total
    c.in_ok-push.ensures.items c.requires.total
    (overran _ _ c.args.task.due _ c.if-from.true (to_z-of_z w128 c.from-2.result (search rules) ∙ c.from-2.ensures ∙ to_z-of_z w64 c.args.task.due (search rules))
    (to_z-of_z w128 c.from.result (search rules) ∙ c.from.ensures)) h)
    c.drop_longest.ensures.dropped

pub returns-clause-next : goal.returns-clause-next
returns-clause-next c =
    accept-kept c.args.choice.now.accepted.items c.args.choice.now.dropped.items c.push.new.self.items c.args.task c.args.choice.now.total
    c.in_ok-push.ensures.items c.requires.total
    (not_overran _ _ c.args.task.due _ c.if-from.false (to_z-of_z w128 c.from-2.result (search rules) ∙ c.from-2.ensures ∙ to_z-of_z w64 c.args.task.due (search rules))
    (to_z-of_z w128 c.from.result (search rules) ∙ c.from.ensures))
