use Rattle.std.proofs.Common.{◌≡◌, ◌*◌, ◌≤◌, take, sum_by}
use Rattle.msp_class.specs.declared.sizes.TheConstants.{MOST_OPERATIONS, GREATEST}
use Rattle.msp_cert.specs.Small.{time_there}
use Rattle.msp_cert.proofs.loads.load_on.Given as goal

-- how long the operations of the jobs so far take
abbrev pub invariant-loop-k : goal.invariant-loop-k
invariant-loop-k l = record {
  value : l.total ≡ sum_by (λ j. sum_by (time_there l.machine) j.needs) (take l.k l.jobs);
  size : l.total ≤ GREATEST * MOST_OPERATIONS * l.k;
}
