-- The schedule over the greater unit is what is asked for.
use Rattle.std.proofs.Common.{sym, subst}
use Rattle.msp_instance.specs.Conditions.{HasSmallMultiple}
use Rattle.msp_pieces.specs.Feasible.{Feasible}
use Rattle.msp_pieces.specs.Within.{Within}
use Rattle.msp_machines.proofs.BroughtBySpeeds.{speeds_within, shrunk_is}
use Rattle.msp_machines.proofs.unrelated.solution_by_speeds.Goals as goal

pub least_common_multiple-requires-clause-speeds : goal.least_common_multiple-requires-clause-speeds
least_common_multiple-requires-clause-speeds c = speeds_within c.args.inst.now c.requires.inner c.requires.uniform _ c.as_slice.ensures

pub least_common_multiple-requires-clause-small : goal.least_common_multiple-requires-clause-small
least_common_multiple-requires-clause-small c = subst HasSmallMultiple (sym c.as_slice.ensures) c.requires.inner.conditions.multiple

pub cost-cost-requires-clause-within : goal.cost-cost-requires-clause-within
cost-cost-requires-clause-within c = subst (Within c.args.inst.now)
    (sym (shrunk_is c.args.inst.now c.args.schedule _ _ _ c.shrunk-schedule.ensures c.least_common_multiple.ensures.value c.as_slice.ensures)) c.requires.within

pub cost-cost-requires-clause-feasible : goal.cost-cost-requires-clause-feasible
cost-cost-requires-clause-feasible c = subst (Feasible c.args.inst.now)
    (sym (shrunk_is c.args.inst.now c.args.schedule _ _ _ c.shrunk-schedule.ensures c.least_common_multiple.ensures.value c.as_slice.ensures)) c.requires.feasible

pub returns-clause-schedule : goal.returns-clause-schedule
returns-clause-schedule c = shrunk_is c.args.inst.now c.args.schedule _ _ _ c.shrunk-schedule.ensures c.least_common_multiple.ensures.value c.as_slice.ensures

pub returns-clause-solution : goal.returns-clause-solution
returns-clause-solution c = record {
  feasible = subst (Feasible c.args.inst.now)
      (sym (shrunk_is c.args.inst.now c.args.schedule _ _ _ c.shrunk-schedule.ensures c.least_common_multiple.ensures.value c.as_slice.ensures)) c.requires.feasible;
  cost = c.cost-cost.ensures.value;
}
