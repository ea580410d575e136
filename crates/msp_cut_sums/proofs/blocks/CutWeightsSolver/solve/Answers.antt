use Rattle.msp_cut_sums.proofs.Solved.{IsSolved-blocked}
use Rattle.msp_cut_sums.proofs.blocks.CutWeightsSolver.solve.Goals as goal

pub cost-cost-requires-clause-within : goal.cost-cost-requires-clause-within
cost-cost-requires-clause-within c = (IsSolved-blocked c.args.inst.now c.requires.class c.requires.inner _ c.in_ok-pieces.ensures).within

pub cost-cost-requires-clause-feasible : goal.cost-cost-requires-clause-feasible
cost-cost-requires-clause-feasible c = (IsSolved-blocked c.args.inst.now c.requires.class c.requires.inner _ c.in_ok-pieces.ensures).best.feasible

pub returns-clause-best : goal.returns-clause-best
returns-clause-best c = record { best = (IsSolved-blocked c.args.inst.now c.requires.class c.requires.inner _ c.in_ok-pieces.ensures).best; cost = c.cost-cost.ensures.value }

pub returns-clause-bounds : goal.returns-clause-bounds
returns-clause-bounds c = (IsSolved-blocked c.args.inst.now c.requires.class c.requires.inner _ c.in_ok-pieces.ensures).answer

pub returns-clause-cost : goal.returns-clause-cost
returns-clause-cost c = (IsSolved-blocked c.args.inst.now c.requires.class c.requires.inner _ c.in_ok-pieces.ensures).cost c.cost-cost.result c.cost-cost.ensures.value

pub returns-clause-pieces : goal.returns-clause-pieces
returns-clause-pieces c = (IsSolved-blocked c.args.inst.now c.requires.class c.requires.inner _ c.in_ok-pieces.ensures).pieces

pub returns-clause-uncut : goal.returns-clause-uncut
returns-clause-uncut c = (IsSolved-blocked c.args.inst.now c.requires.class c.requires.inner _ c.in_ok-pieces.ensures).uncut
