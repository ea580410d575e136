use Rattle.std.proofs.Common.{ℕ, ◌<◌}
use Rattle.msp_cert.specs.declared.Proof.TheVariants.{Line}
use Rattle.msp_cert.specs.Search.{HasValue}
use Rattle.msp_cert.proofs.search.first_line.Given as goal

-- none of the jobs so far has the value
abbrev pub invariant-loop-job : goal.invariant-loop-job
invariant-loop-job l = (k : ℕ) → k < l.job → ¬ HasValue l.inst l.cost (Line k)
