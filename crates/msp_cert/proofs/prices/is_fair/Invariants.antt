use Rattle.std.proofs.Common.{ℕ, ◌*◌, ◌<◌}
use Rattle.std.specs.Prelude.{slice_index_or}
use Rattle.msp_instance.specs.Instance.{no_need}
use Rattle.msp_cert.specs.Fair.{IsFairOn}
use Rattle.msp_cert.proofs.prices.is_fair.Given as goal

-- the machines so far are fair
abbrev pub invariant-loop-machine : goal.invariant-loop-machine
invariant-loop-machine l = (m : ℕ) → m < l.machine → IsFairOn l.price l.column (m * l.count) l.count (slice_index_or l.needs m no_need).time
