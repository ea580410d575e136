use Rattle.msp_dispatch.proofs.Picks.{Best-settled}
use Rattle.msp_dispatch.proofs.solve.settled.Goals as goal

pub cost-least-requires : goal.cost-least-requires
cost-least-requires c =
    let i = c.args.inst.now in
    record { inner = c.requires.inner; within = c.settle.ensures.within i c.requires.within; feasible = c.settle.ensures.feasible i c.requires.best.best.feasible }

pub returns-clause-within : goal.returns-clause-within
returns-clause-within c = c.settle.ensures.within c.args.inst.now c.requires.within

pub returns-clause-best : goal.returns-clause-best
returns-clause-best c =
    let i = c.args.inst.now in
    let old = c.args.solution.schedule in
    let best = c.requires.best.best in
    record { best = Best-settled i old c.settle.new.s best (c.settle.ensures.cost i best.feasible) (c.settle.ensures.feasible i best.feasible); cost = c.cost-least.ensures.value }
