-- the jobs so far
use Rattle.std.proofs.Common.{◌≡◌, map, All}
use Rattle.std.specs.List.{range_with_len}
use Rattle.msp_instance.specs.Instance.{need_at}
use Rattle.msp_total.proofs.uniform.timed_jobs.Given as goal

abbrev pub invariant-loop-k : goal.invariant-loop-k
invariant-loop-k l = record {
  jobs : map (λ t. t.job) l.all.items ≡ range_with_len 0 l.k;
  times : All (λ t. t.key ≡ (need_at l.inst t.job 0).time) l.all.items;
}
