use Rattle.msp_lexical.proofs.Counts.{IsReleasing}
use Rattle.msp_lexical.proofs.links.release.Given as goal

-- the arcs from the number on are taken away
abbrev pub invariant-loop-number : goal.invariant-loop-number
invariant-loop-number l = IsReleasing l.arcs l.job l.initial.counts l.counts l.number

abbrev pub decreases-loop-number : goal.decreases-loop-number
decreases-loop-number l = l.number
