use Rattle.std.proofs.Common.{◌≡◌, ◌==◌, slice_index, filter}
use Rattle.std.specs.List.{range_with_len}
use Rattle.msp_instance.proofs.sequence.free_jobs.Given as goal

abbrev pub invariant-loop-job : goal.invariant-loop-job
invariant-loop-job l = l.free.items ≡ filter (λ k. slice_index l.entering k == 0) (range_with_len 0 l.job)
