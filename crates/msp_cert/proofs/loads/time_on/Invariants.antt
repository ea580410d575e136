use Rattle.std.proofs.Common.{◌≡◌, ◌*◌, ◌≤◌, take, sum_by}
use Rattle.msp_class.specs.declared.sizes.TheConstants.{GREATEST}
use Rattle.msp_cert.specs.Small.{time_there}
use Rattle.msp_cert.proofs.loads.time_on.Given as goal

-- how long the operations so far take
abbrev pub invariant-loop-k : goal.invariant-loop-k
invariant-loop-k l = record {
  value : l.total ≡ sum_by (time_there l.machine) (take l.k l.needs);
  size : l.total ≤ GREATEST * l.k;
}
