use Rattle.std.proofs.Common.{not, filter, ap, ◌∙◌}
use Rattle.std.proofs.lemmas.List.{take_all}
use Rattle.msp_instance.specs.Paths.{leads}
use Rattle.msp_lexical.proofs.label.part.Goals as goal

pub returns-clause-stay : goal.returns-clause-stay
returns-clause-stay c = c.loop-other.invariant.stay ∙ ap (filter (λ j. not (leads c.args.paths.now j c.args.job))) (take_all _ _ c.loop-other-test.false)

pub returns-clause-rise : goal.returns-clause-rise
returns-clause-rise c = c.loop-other.invariant.rise ∙ ap (filter (λ j. leads c.args.paths.now j c.args.job)) (take_all _ _ c.loop-other-test.false)
