-- The goals of `lines_on_costs` that are proved by lemmas.
use Rattle.std.proofs.Common.{◌++◌, ◌∙◌, ap}
use Rattle.msp_report.specs.CheckText.{cost_lines}
use Rattle.msp_report.proofs.CheckLemmas.{states, ↔_trans}
use Rattle.msp_report.proofs.check.lines_on_costs.Goals as goal

pub returns : goal.returns
returns c = record {
  cost = c.cost-cost.result;
  stated = c.lowest-least.result;
  agrees = c.are_equal.result;
  cost_is = c.cost-cost.ensures.value;
  cost_lowest = c.cost-cost.ensures.lowest;
  stated_is = c.lowest-least.ensures.same;
  stated_lowest = c.lowest-least.ensures.lowest;
  agree = ↔_trans c.are_equal.ensures (states c.args.stated.now.cost c.lowest-least.result c.cost-cost.result _ _ c.requires.stated.unit.0 c.lowest-least.ensures.same c.cost-cost.ensures.value);
  printed = c.in_ok-put_costs.ensures ∙ ap (λ l. l ++ cost_lines c.cost-cost.result c.lowest-least.result c.are_equal.result) c.new-lines.ensures.items;
}
