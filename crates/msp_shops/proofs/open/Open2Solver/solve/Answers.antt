use Rattle.msp_shops.proofs.Shops.{IsBestPlan, over_one}
use Rattle.msp_shops.proofs.OpenFacts.{open_end}
use Rattle.msp_shops.proofs.OpenSteps.{IsBestPlan-from_open, IsOpenCost-read}
use Rattle.msp_shops.proofs.open.Open2Solver.solve.Goals as goal
use Rattle.msp_shops.proofs.open.Open2Solver.solve.Goals.{In_ok-pieces}

-- what the pieces are
plan : (c : In_ok-pieces) → IsBestPlan c.args.inst.now (open_end c.args.inst.now) (over_one c.in_ok-pieces.pieces)
plan c = IsBestPlan-from_open c.args.inst.now c.requires.class c.requires.inner _ c.in_ok-pieces.ensures

pub cost-cost-requires-clause-within : goal.cost-cost-requires-clause-within
cost-cost-requires-clause-within c = (plan (goal.at.cost-cost-requires-clause-within c).In_ok-pieces).within

pub cost-cost-requires-clause-feasible : goal.cost-cost-requires-clause-feasible
cost-cost-requires-clause-feasible c = (plan (goal.at.cost-cost-requires-clause-feasible c).In_ok-pieces).best.feasible

pub returns-clause-best : goal.returns-clause-best
returns-clause-best c = record { best = (plan (goal.at.returns-clause-best c).In_ok-pieces).best; cost = c.cost-cost.ensures.value }

pub returns-clause-bounds : goal.returns-clause-bounds
returns-clause-bounds c = (plan (goal.at.returns-clause-bounds c).In_ok-pieces).answer

pub returns-clause-cost : goal.returns-clause-cost
returns-clause-cost c = IsOpenCost-read c.args.inst.now c.requires.class c.requires.inner
    c.cost-cost.result _ (plan (goal.at.returns-clause-cost c).In_ok-pieces) c.cost-cost.ensures.value
