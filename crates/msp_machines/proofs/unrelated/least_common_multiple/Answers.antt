-- The least common multiple is the one that divides every other.
use Rattle.msp_machines.specs.laws.LeastMultiple.{least_multiple-only}
use Rattle.msp_machines.proofs.unrelated.least_common_multiple.Goals as goal

pub returns-clause-value : goal.returns-clause-value
returns-clause-value c = least_multiple-only c.args.speeds.now c.multiple_of_all.result (λ k d l. (c.requires.speeds k d l).0) c.multiple_of_all.ensures.least
