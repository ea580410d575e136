use Rattle.std.proofs.Common.{◌≢◌, ℕ, ◌<◌}
use Rattle.std.specs.Prelude.{slice_get, Some}
use Rattle.msp_dispatch.specs.Solved.{solved_classes}
use Rattle.msp_dispatch.proofs.pick.place_of.Given as goal

abbrev pub invariant-loop-place : goal.invariant-loop-place
invariant-loop-place l = (k : ℕ) → k < l.place → slice_get solved_classes k ≢ Some l.class
