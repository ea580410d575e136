use Rattle.std.proofs.Common.{◌<◌, length, take, All, slice_index_or}
use Rattle.msp_single.specs.declared.moore.Task.{Task}
use Rattle.msp_single.proofs.MooreSteps.{Outlasts}
use Rattle.msp_single.proofs.moore.longest.Given as goal

-- the longest of the tasks so far
abbrev pub invariant-loop-place : goal.invariant-loop-place
invariant-loop-place l = record {
  within : l.best < length l.tasks;
  longest : (d : Task) → All (Outlasts (slice_index_or l.tasks l.best d)) (take l.place l.tasks);
}
