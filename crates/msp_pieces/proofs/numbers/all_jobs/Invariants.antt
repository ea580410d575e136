use Rattle.std.proofs.Common.{◌≡◌}
use Rattle.std.specs.List.{range_with_len}
use Rattle.msp_pieces.proofs.numbers.all_jobs.Given as goal

-- the numbers so far
abbrev pub invariant-loop-job : goal.invariant-loop-job
invariant-loop-job l = l.all.items ≡ range_with_len 0 l.job
