use Rattle.std.proofs.Common.{ℕ, ◌<◌}
use Rattle.msp_cert.specs.declared.Proof.TheVariants.{Machine}
use Rattle.msp_cert.specs.Search.{HasValue}
use Rattle.msp_cert.proofs.search.first_machine.Given as goal

-- none of the machines so far has the value
abbrev pub invariant-loop-machine : goal.invariant-loop-machine
invariant-loop-machine l = (k : ℕ) → k < l.machine → ¬ HasValue l.inst l.cost (Machine k)
