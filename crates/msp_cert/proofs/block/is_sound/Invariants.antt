use Rattle.std.proofs.Common.{ℕ, ◌<◌}
use Rattle.msp_cert.specs.Certificates.{of_job}
use Rattle.msp_cert.specs.Least.{IsBacked}
use Rattle.msp_cert.proofs.block.is_sound.Given as goal

-- the heads of the jobs so far are backed
abbrev pub invariant-loop-k : goal.invariant-loop-k
invariant-loop-k l = (j : ℕ) → j < l.k → IsBacked l.inst (of_job l.head) j
