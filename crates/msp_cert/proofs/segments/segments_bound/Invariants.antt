use Rattle.std.proofs.Common.{◌≡◌, ◌+◌, ◌*◌, ◌-◌, ◌/◌, ◌≤◌, length, take, sum_by}
use Rattle.msp_class.specs.declared.sizes.TheConstants.{MOST_MACHINES}
use Rattle.msp_cert.specs.declared.limits.TheConstants.{MOST_ENTRIES}
use Rattle.msp_cert.proofs.segments.segments_bound.Given as goal

-- the lists so far together
abbrev pub invariant-loop-k : goal.invariant-loop-k
invariant-loop-k l = record {
  value : l.total ≡ sum_by (λ jobs. (length jobs + (l.inst.machines - 1)) / l.inst.machines) (take l.k l.lists);
  size : l.total ≤ (MOST_ENTRIES + MOST_MACHINES) * l.k;
}
