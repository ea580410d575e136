use Rattle.std.proofs.Common.{length}
use Rattle.msp_uniform.specs.Segments.{at, AreLaidUpTo}
use Rattle.msp_uniform.proofs.laying.lay_over_all.Given as goal

-- the segments so far are laid
abbrev pub invariant-segments : goal.invariant-segments
invariant-segments l = AreLaidUpTo (at l.speeds) l.job l.place l.gain l.left l.fn.segments.items l.segments.items l.parts.first.items l.parts.second.items

abbrev pub decreases-segments : goal.decreases-segments
decreases-segments l = length l.segments.items
