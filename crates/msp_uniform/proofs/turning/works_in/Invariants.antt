use Rattle.msp_uniform.specs.Segments.{at, AreWorks}
use Rattle.msp_uniform.proofs.turning.works_in.Given as goal

-- the places so far
abbrev pub invariant-loop-place : goal.invariant-loop-place
invariant-loop-place l = AreWorks (at l.speeds) l.place l.segments.items l.works.items
