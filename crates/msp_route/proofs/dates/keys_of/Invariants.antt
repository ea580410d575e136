use Rattle.std.proofs.Common.{◌≡◌, ℕ, ◌^◌, ◌<◌, length, pos, ◌+ℤ◌}
use Rattle.std.specs.Prelude.{slice_index}
use Rattle.msp_instance.specs.Instance.{job_at}
use Rattle.msp_route.proofs.dates.keys_of.Given as goal

-- the keys of the jobs so far
abbrev pub invariant-loop-k : goal.invariant-loop-k
invariant-loop-k l = record {
  count : length l.keys.items ≡ l.k;
  each : (j : ℕ) → j < l.k → pos (slice_index l.keys.items j) ≡ (job_at l.inst j).due +ℤ pos (2 ^ 63);
}
