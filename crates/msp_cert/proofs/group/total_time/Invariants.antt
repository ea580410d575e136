use Rattle.std.proofs.Common.{◌≡◌, ◌*◌, ◌≤◌, take, sum_by}
use Rattle.msp_class.specs.declared.sizes.TheConstants.{GREATEST}
use Rattle.msp_instance.specs.Instance.{need_at}
use Rattle.msp_cert.proofs.group.total_time.Given as goal

-- how long the jobs so far take
abbrev pub invariant-loop-k : goal.invariant-loop-k
invariant-loop-k l = record {
  value : l.total ≡ sum_by (λ j. (need_at l.inst j 0).time) (take l.k l.jobs);
  size : l.total ≤ GREATEST * l.k;
}
