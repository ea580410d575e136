use Rattle.std.proofs.Common.{◌≡◌, map, All, slice_index_or}
use Rattle.std.specs.List.{range_with_len}
use Rattle.msp_route.proofs.keyed.keyed_jobs.Given as goal

-- the jobs so far
abbrev pub invariant-loop-place : goal.invariant-loop-place
invariant-loop-place l = record {
  jobs : map (λ k. k.job) l.all.items ≡ range_with_len 0 l.place;
  keys : All (λ k. k.key ≡ slice_index_or l.keys k.job 0) l.all.items;
}
