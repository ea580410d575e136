use Rattle.std.proofs.Common.{◌≡◌, ◌*◌, ◌≤◌, take, sum_by}
use Rattle.msp_class.specs.declared.sizes.TheConstants.{GREATEST}
use Rattle.msp_cert.proofs.loads.time_of_all.Given as goal

-- how long the operations so far take
abbrev pub invariant-loop-k : goal.invariant-loop-k
invariant-loop-k l = record {
  value : l.total ≡ sum_by (λ n. n.time) (take l.k l.needs);
  size : l.total ≤ GREATEST * l.k;
}
