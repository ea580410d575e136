use Rattle.std.proofs.Common.{◌+◌, min, length}
use Rattle.msp_uniform.specs.Segments.{at, IsLaying}
use Rattle.msp_uniform.proofs.laying.lay.Given as goal

-- the segments so far are laid
abbrev pub invariant-late : goal.invariant-late
invariant-late l = IsLaying (at l.speeds) l.job l.place l.gain l.left l.fn.late.items l.fn.early.items l.early.items l.late.items

-- a segment fewer is late, or nothing more is to be gained
abbrev pub decreases-late : goal.decreases-late
decreases-late l = length l.late.items + min 1 l.left
