use Rattle.std.proofs.Common.{ℕ, ◌+◌, ◌<◌, take}
use Rattle.msp_cert.specs.declared.Proof.TheVariants.{Group}
use Rattle.msp_cert.specs.Search.{HasValue}
use Rattle.msp_cert.proofs.Tried.{AreTogether}
use Rattle.msp_cert.proofs.search.first_group.Given as goal

-- the jobs and machines so far, of which none have the value
abbrev pub invariant-loop-k : goal.invariant-loop-k
invariant-loop-k l = record {
  together : AreTogether l.inst l.longest l.speeds l.k l.time l.speed;
  before : (j : ℕ) → j < l.k → ¬ HasValue l.inst l.cost (Group (take (j + 1) l.longest));
}
