use Rattle.std.proofs.Common.{rules}
use Rattle.msp_route.proofs.Halves.{least_at, small_at}
use Rattle.msp_route.proofs.halving.least_in.Goals as goal

pub returns-clause-least : goal.returns-clause-least
returns-clause-least g c = least_at (g.Q.Question.met c.args.question.now) (g.Q.Question.limit c.args.question.now) c.requires.small c.loop-range.range c.loop-range.invariant (search rules)

pub returns-clause-small : goal.returns-clause-small
returns-clause-small g c = small_at (g.Q.Question.limit c.args.question.now) c.requires.small c.loop-range.range.high c.loop-range.invariant.high
