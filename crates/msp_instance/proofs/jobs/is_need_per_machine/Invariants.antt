use Rattle.std.proofs.Common.{◌≡◌, ℕ, ◌<◌, slice_index_or}
use Rattle.msp_instance.specs.Instance.{no_need}
use Rattle.msp_instance.proofs.jobs.is_need_per_machine.Given as goal

abbrev pub invariant-loop-k : goal.invariant-loop-k
invariant-loop-k l = (j : ℕ) → j < l.k → (slice_index_or l.needs j no_need).machine ≡ j
