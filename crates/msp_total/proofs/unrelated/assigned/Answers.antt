use Rattle.msp_total.proofs.ColumnSteps.{costs_small}
use Rattle.msp_total.proofs.unrelated.assigned.Goals as goal

pub assign_on_lines-requires-clause-costs : goal.assign_on_lines-requires-clause-costs
assign_on_lines-requires-clause-costs c = costs_small c.args.table.now c.requires.jobs c.requires.times
