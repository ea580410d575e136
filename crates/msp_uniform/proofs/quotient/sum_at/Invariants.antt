use Rattle.std.proofs.Common.{◌≡◌, ◌*◌, ◌≤◌, take, sum_by}
use Rattle.msp_class.specs.declared.sizes.TheConstants.{GREATEST}
use Rattle.msp_uniform.specs.Segments.{at}
use Rattle.msp_uniform.proofs.quotient.sum_at.Given as goal

-- the sum of the values at the places so far
abbrev pub invariant-loop-place : goal.invariant-loop-place
invariant-loop-place l = record {
  value : l.sum ≡ sum_by (at l.values) (take l.place-index l.places);
  size : l.sum ≤ GREATEST * l.place-index;
}
