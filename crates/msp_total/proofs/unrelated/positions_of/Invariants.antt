-- the times of the jobs so far
use Rattle.msp_total.specs.Columns.{HasTimes}
use Rattle.msp_total.proofs.unrelated.positions_of.Given as goal

abbrev pub invariant-loop-k : goal.invariant-loop-k
invariant-loop-k l = HasTimes l.inst l.k l.times
