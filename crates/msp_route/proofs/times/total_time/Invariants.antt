use Rattle.std.proofs.Common.{◌≡◌, ◌*◌, ◌≤◌, take, sum_by}
use Rattle.msp_class.specs.declared.sizes.TheConstants.{GREATEST}
use Rattle.msp_pieces.specs.BackToBack.{time_at}
use Rattle.msp_route.proofs.times.total_time.Given as goal

-- how long the jobs so far take
abbrev pub invariant-loop-k : goal.invariant-loop-k
invariant-loop-k l = record {
  value : l.total ≡ sum_by (time_at l.inst) (take l.k l.jobs);
  early : l.total ≤ GREATEST * l.k;
}
