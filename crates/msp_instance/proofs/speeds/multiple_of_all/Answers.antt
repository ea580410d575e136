use Rattle.std.proofs.Common.{◌+◌, subst, arith}
use Rattle.std.proofs.lemmas.List.{take_all}
use Rattle.msp_instance.specs.Multiples.{IsLeastOfAll}
use Rattle.msp_instance.proofs.MultipleLemmas.{IsLeastOfAll-none, IsLeastOfAll-more, multiple_small}
use Rattle.msp_instance.proofs.speeds.multiple_of_all.Goals as goal

pub loop-speed-init : goal.loop-speed-init
loop-speed-init c = record { least = IsLeastOfAll-none; small = omega arith }

pub loop-speed-preserved : goal.loop-speed-preserved
loop-speed-preserved c =
    let more = IsLeastOfAll-more c.args.speeds.now c.loop-speed.speed-index _ _ (omega arith)
    c.loop-speed.invariant.least c.common_multiple-multiple.ensures.some c.common_multiple-multiple.ensures.least in
    record { least = more; small = multiple_small c.args.speeds.now (c.loop-speed.speed-index + 1) _ c.requires.small more }

pub returns-clause-least : goal.returns-clause-least
returns-clause-least c = subst (λ l. IsLeastOfAll l c.loop-speed.multiple) (take_all c.loop-speed.speed-index c.args.speeds.now (omega arith)) c.loop-speed.invariant.least
