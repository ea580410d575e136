use Rattle.std.proofs.Common.{◌<◌}
use Rattle.msp_pieces.proofs.costs.Costs.{ReachesTo}
use Rattle.msp_pieces.proofs.total_cost.greatest_of_costs.Given as goal

abbrev pub invariant-loop-k : goal.invariant-loop-k
invariant-loop-k l = (0 < l.k) × ReachesTo l.crit l.unit l.ends l.jobs l.k l.top
