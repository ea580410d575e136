use Rattle.std.proofs.Common.{rules}
use Rattle.msp_places.proofs.MostSteps.{best_first, best_next, best_of_all}
use Rattle.msp_places.proofs.most.cheapest.Goals as goal

pub loop-place-init : goal.loop-place-init
loop-place-init c = best_first c.args.inst.now c.args.unit c.args.end c.args.left.now _ c.requires.some c.candidate_at-best.ensures

pub loop-place-preserved : goal.loop-place-preserved
loop-place-preserved c = best_next c.args.inst.now c.args.unit c.args.end c.args.left.now c.loop-place.place _ _ _ c.loop-place-test.true
    c.loop-place.invariant c.candidate_at-next.ensures c.better-best.ensures.either c.better-best.ensures.best c.better-best.ensures.next

pub returns-clause-place : goal.returns-clause-place
returns-clause-place c = (best_of_all c.args.inst.now c.args.unit c.args.end c.args.left.now c.loop-place.place _ (search rules) c.loop-place.invariant).0

pub returns-clause-cheapest : goal.returns-clause-cheapest
returns-clause-cheapest c = (best_of_all c.args.inst.now c.args.unit c.args.end c.args.left.now c.loop-place.place _ (search rules) c.loop-place.invariant).1
