-- the ends from the last place on
use Rattle.msp_cut_sums.proofs.Steps.{HaveEnds}
use Rattle.msp_cut_sums.proofs.stacks.ends_of.Given as goal

abbrev pub invariant-loop-back : goal.invariant-loop-back
invariant-loop-back l = HaveEnds l.machines l.back l.times l.ends.items
