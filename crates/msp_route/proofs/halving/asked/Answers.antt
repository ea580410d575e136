use Rattle.std.proofs.Common.{◌≤ℤ◌, ◌<ℤ◌, sym, subst}
use Rattle.msp_instance.specs.Conditions.{LiesWithin}
use Rattle.msp_route.proofs.Halves.{halved, middle_within, middle_is, smaller}
use Rattle.msp_route.proofs.halving.asked.Goals as goal

pub ask-requires-clause-bound : goal.ask-requires-clause-bound
ask-requires-clause-bound g c =
    let r = c.args.range in
    let h = c.requires.range in
    let limit = g.Q.Question.limit c.args.question.now in
    subst (LiesWithin limit) (sym (middle_is (g.Q.Question.limit c.args.question.now) c.requires.small r.low r.high c.args.middle c.requires.low c.requires.high h.low h.high))
    (middle_within limit r.low r.high c.args.middle c.requires.low c.requires.high h.low h.high)

pub returns-clause-range : goal.returns-clause-range
returns-clause-range g c =
    let q = c.args.question.now in
    let r = c.args.range in
    let h = c.requires.range in
    let m = c.args.middle in
    let is = middle_is (g.Q.Question.limit c.args.question.now) c.requires.small r.low r.high m c.requires.low c.requires.high h.low h.high in
    halved (g.Q.Question.met q) (g.Q.Question.limit q) (g.met.Q.Question.rises q) r c.halved.result _ c.in_ok-met.met h (subst (λ x. r.low ≤ℤ x) (sym is) c.requires.low)
    (subst (λ x. x <ℤ r.high) (sym is) c.requires.high) c.in_ok-met.ensures c.halved.ensures.low c.halved.ensures.high

pub returns-clause-fewer : goal.returns-clause-fewer
returns-clause-fewer g c =
    let r = c.args.range in
    let h = c.requires.range in
    smaller r c.halved.result c.args.middle _ c.in_ok-met.met
    (middle_is (g.Q.Question.limit c.args.question.now) c.requires.small r.low r.high c.args.middle c.requires.low c.requires.high h.low h.high)
    c.requires.low c.requires.high c.halved.ensures.low c.halved.ensures.high
