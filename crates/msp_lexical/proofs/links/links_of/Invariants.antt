use Rattle.msp_lexical.specs.Counts.{AreLinks}
use Rattle.msp_lexical.proofs.links.links_of.Given as goal

-- the arcs so far
abbrev pub invariant-loop-place : goal.invariant-loop-place
invariant-loop-place l = AreLinks l.arcs l.place l.last l.earlier.items
