use Rattle.std.proofs.Common.{◌≡◌, map, All}
use Rattle.std.specs.List.{range_with_len}
use Rattle.msp_instance.specs.Instance.{job_at, need_at}
use Rattle.msp_single.proofs.moore.tasks_of.Given as goal

-- what the rule reads, of the jobs so far
abbrev pub invariant-loop-k : goal.invariant-loop-k
invariant-loop-k l = record {
  numbers : map (λ x. x.job) l.tasks.items ≡ range_with_len 0 l.k;
  each : All (λ x. (x.time ≡ (need_at l.inst x.job 0).time) × (x.due ≡ (job_at l.inst x.job).due)) l.tasks.items;
}
