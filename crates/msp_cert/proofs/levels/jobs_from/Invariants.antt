use Rattle.std.proofs.Common.{◌≡◌, ◌≤◌, count_by}
use Rattle.std.specs.Prelude.{nat_le}
use Rattle.std.specs.List.{range_with_len}
use Rattle.msp_cert.specs.Certificates.{of_job}
use Rattle.msp_cert.proofs.levels.jobs_from.Given as goal

-- how many jobs so far have at least the level
abbrev pub invariant-loop-job : goal.invariant-loop-job
invariant-loop-job l = record {
  value : l.high ≡ count_by (λ j. nat_le l.tail (of_job l.level j)) (range_with_len 0 l.job);
  size : l.high ≤ l.job;
}
