use Rattle.msp_stairs.proofs.Bounds.{once}
use Rattle.msp_stairs.proofs.climb.task_at.Goals as goal

pub task_of-requires-clause-inside : goal.task_of-requires-clause-inside
task_of-requires-clause-inside c = (once c.args.inst.now c.args.order.now c.requires.ready).within c.args.place 0 c.requires.inside
