use Rattle.std.proofs.Common.{◌≡◌, map, All, slice_index}
use Rattle.std.specs.List.{range_with_len}
use Rattle.msp_levels.proofs.level.ranked_jobs.Given as goal

-- the jobs so far
abbrev pub invariant-loop-job : goal.invariant-loop-job
invariant-loop-job l = record {
  jobs : map (λ r. r.job) l.all.items ≡ range_with_len 0 l.job;
  levels : All (λ r. r.key ≡ slice_index l.levels r.job) l.all.items;
}
