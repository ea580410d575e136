use Rattle.msp_shops.proofs.InSeries.{IsBestPlan-read}
use Rattle.msp_shops.proofs.JacksonPieces.{IsJacksonSchedule-read}
use Rattle.msp_shops.proofs.two_machines.in_series.Goals as goal

pub cost-cost-requires-clause-within : goal.cost-cost-requires-clause-within
cost-cost-requires-clause-within c =
    (IsBestPlan-read c.args.inst.now c.requires.shop _ _ _ _ _ c.in_ok-here.ensures c.in_ok-there.ensures c.deref.ensures.value c.deref-2.ensures.value c.in_ok-pieces.ensures).1.within

pub cost-cost-requires-clause-feasible : goal.cost-cost-requires-clause-feasible
cost-cost-requires-clause-feasible c =
    (IsBestPlan-read c.args.inst.now c.requires.shop _ _ _ _ _ c.in_ok-here.ensures c.in_ok-there.ensures c.deref.ensures.value c.deref-2.ensures.value c.in_ok-pieces.ensures).1.best.feasible

pub returns-clause-best : goal.returns-clause-best
returns-clause-best c =
    let plan = (IsBestPlan-read c.args.inst.now c.requires.shop _ _ _ _ _ c.in_ok-here.ensures c.in_ok-there.ensures c.deref.ensures.value c.deref-2.ensures.value c.in_ok-pieces.ensures).1 in
    record { best = plan.best; cost = c.cost-cost.ensures.value }

pub returns-clause-bounds : goal.returns-clause-bounds
returns-clause-bounds c =
    (IsBestPlan-read c.args.inst.now c.requires.shop _ _ _ _ _ c.in_ok-here.ensures c.in_ok-there.ensures c.deref.ensures.value c.deref-2.ensures.value c.in_ok-pieces.ensures).1.answer

pub returns-clause-pieces : goal.returns-clause-pieces
returns-clause-pieces c =
    IsJacksonSchedule-read c.args.inst.now c.requires.shop _ _ _ _ _ c.in_ok-here.ensures c.in_ok-there.ensures c.deref.ensures.value c.deref-2.ensures.value c.in_ok-pieces.ensures
