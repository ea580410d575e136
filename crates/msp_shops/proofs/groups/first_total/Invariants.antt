use Rattle.std.proofs.Common.{◌≡◌, ◌≤◌, ◌*◌, take, sum_by}
use Rattle.msp_class.specs.declared.sizes.TheConstants.{GREATEST}
use Rattle.msp_shops.proofs.groups.first_total.Given as goal

-- how long the jobs so far take
abbrev pub invariant-loop-k : goal.invariant-loop-k
invariant-loop-k l = record {
  value : l.total ≡ sum_by (λ t. t.first) (take l.k l.jobs);
  size : l.total ≤ GREATEST * l.k;
}
