use Rattle.msp_lexical.specs.Steps.{AreRanks}
use Rattle.msp_lexical.proofs.rule.ranks_of.Given as goal

-- the ranks so far
abbrev pub invariant-loop-job : goal.invariant-loop-job
invariant-loop-job l = AreRanks l.count l.labels l.ranks.items l.job
