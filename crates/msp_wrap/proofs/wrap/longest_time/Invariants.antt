use Rattle.std.proofs.Common.{◌≡◌, ◌≤◌, max, fold, map, take}
use Rattle.msp_class.specs.declared.sizes.TheConstants.{GREATEST}
use Rattle.msp_wrap.specs.Wrap.{time_of}
use Rattle.msp_wrap.proofs.wrap.longest_time.Given as goal

-- the longest time of the jobs so far
abbrev pub invariant-loop-k : goal.invariant-loop-k
invariant-loop-k l = record {
  value : l.longest ≡ fold max 0 (map time_of (take l.k l.jobs));
  size : l.longest ≤ GREATEST;
}
