-- What has been put at the end so far.
use Rattle.std.proofs.Common.{◌≡◌, ◌++◌, take}
use Rattle.msp_trees.proofs.joining.append.Given as goal

-- the jobs so far stand at the end
abbrev pub invariant-loop-k : goal.invariant-loop-k
invariant-loop-k l = l.block ≡ l.fn.block ++ take l.k l.jobs
