use Rattle.msp_pieces.proofs.costs.Costs.{SumsTo}
use Rattle.msp_pieces.proofs.total_cost.sum_of_costs.Given as goal

abbrev pub invariant-loop-k : goal.invariant-loop-k
invariant-loop-k l = SumsTo l.crit l.unit l.ends l.jobs l.k l.sum
