use Rattle.msp_shops.proofs.OpenCutFacts.{IsBestPlan-from_cut, IsOpenCutCost-read, AreJoined-from_cut}
use Rattle.msp_shops.proofs.open_cut.OpenCutSolver.solve.Goals as goal

pub cost-cost-requires-clause-within : goal.cost-cost-requires-clause-within
cost-cost-requires-clause-within c = (IsBestPlan-from_cut c.args.inst.now c.requires.class c.requires.inner _ c.in_ok-pieces.ensures).2.within

pub cost-cost-requires-clause-feasible : goal.cost-cost-requires-clause-feasible
cost-cost-requires-clause-feasible c = (IsBestPlan-from_cut c.args.inst.now c.requires.class c.requires.inner _ c.in_ok-pieces.ensures).2.best.feasible

pub returns-clause-best : goal.returns-clause-best
returns-clause-best c = record { best = (IsBestPlan-from_cut c.args.inst.now c.requires.class c.requires.inner _ c.in_ok-pieces.ensures).2.best; cost = c.cost-cost.ensures.value }

pub returns-clause-bounds : goal.returns-clause-bounds
returns-clause-bounds c = (IsBestPlan-from_cut c.args.inst.now c.requires.class c.requires.inner _ c.in_ok-pieces.ensures).2.answer

pub returns-clause-cost : goal.returns-clause-cost
returns-clause-cost c = IsOpenCutCost-read c.args.inst.now
    c.cost-cost.result _ (IsBestPlan-from_cut c.args.inst.now c.requires.class c.requires.inner _ c.in_ok-pieces.ensures) c.cost-cost.ensures.value

pub returns-clause-joined : goal.returns-clause-joined
returns-clause-joined c = AreJoined-from_cut c.args.inst.now _ c.in_ok-pieces.ensures
