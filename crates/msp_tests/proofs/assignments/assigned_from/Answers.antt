use Rattle.std.proofs.Common.{◌≤◌, All, rules, arith}
use Rattle.msp_assign.specs.Prices.{greatest_fall}
use Rattle.msp_tests.proofs.assignments.assigned_from.Goals as goal

pub assign_from-requires-clause-falls : goal.assign_from-requires-clause-falls
assign_from-requires-clause-falls c = let all : All (λ f. f ≤ greatest_fall) c.args.falls.now = search rules in record {
  size = omega (arith, c.in_ok-table.ensures.columns.1);
  low = λ k l. all k 0 (omega (arith, l, c.in_ok-table.ensures.columns.1));
}
