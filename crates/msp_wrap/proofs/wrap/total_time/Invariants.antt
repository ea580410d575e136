use Rattle.std.proofs.Common.{◌≡◌, ◌*◌, ◌≤◌, take, sum_by}
use Rattle.msp_class.specs.declared.sizes.TheConstants.{GREATEST}
use Rattle.msp_wrap.specs.Wrap.{time_of}
use Rattle.msp_wrap.proofs.wrap.total_time.Given as goal

-- how long the jobs so far take
abbrev pub invariant-loop-k : goal.invariant-loop-k
invariant-loop-k l = record {
  value : l.total ≡ sum_by time_of (take l.k l.jobs);
  size : l.total ≤ GREATEST * l.k;
}
