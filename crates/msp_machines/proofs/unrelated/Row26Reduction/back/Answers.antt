-- The lower schedule over the greater unit.
use Rattle.std.proofs.Common.{refl}
use Rattle.msp_machines.specs.laws.Stretched.{led_26}
use Rattle.msp_machines.proofs.BroughtBySpeeds.{unit_small, Within-after, feasible_after, brought_back}
use Rattle.msp_machines.proofs.unrelated.Row26Reduction.back.Goals as goal

pub solution_by_speeds-requires-clause-uniform : goal.solution_by_speeds-requires-clause-uniform
solution_by_speeds-requires-clause-uniform c = (led_26 c.args.inst.now c.requires.inner c.requires.applies).from

pub solution_by_speeds-requires-clause-unit : goal.solution_by_speeds-requires-clause-unit
solution_by_speeds-requires-clause-unit c = unit_small (led_26 c.args.inst.now c.requires.inner c.requires.applies) c.args.lower.schedule c.requires.solution.feasible c.requires.bounded

pub solution_by_speeds-requires-clause-within : goal.solution_by_speeds-requires-clause-within
solution_by_speeds-requires-clause-within c = Within-after (led_26 c.args.inst.now c.requires.inner c.requires.applies) c.args.lower.schedule c.requires.solution.feasible c.requires.bounded

pub solution_by_speeds-requires-clause-feasible : goal.solution_by_speeds-requires-clause-feasible
solution_by_speeds-requires-clause-feasible c = feasible_after (led_26 c.args.inst.now c.requires.inner c.requires.applies) c.args.lower.schedule c.requires.solution.feasible c.requires.bounded

pub returns : goal.returns
returns c = brought_back (led_26 c.args.inst.now c.requires.inner c.requires.applies) c.args.lower.schedule c.requires.solution.feasible c.requires.bounded
    (record { changes = refl; grows = refl; moments = refl; dates = refl }) c.solution_by_speeds.result c.solution_by_speeds.ensures.schedule c.solution_by_speeds.ensures.solution
