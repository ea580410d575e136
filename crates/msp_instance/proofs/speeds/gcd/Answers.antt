use Rattle.std.proofs.Common.{arith}
use Rattle.std.proofs.lemmas.Nat.Gcd.{IsGcd-from_zero}
use Rattle.msp_instance.proofs.MultipleLemmas.{SharesDivisors-start, SharesDivisors-next}
use Rattle.msp_instance.proofs.speeds.gcd.Goals as goal

pub loop-y-init : goal.loop-y-init
loop-y-init c = SharesDivisors-start _ _

pub loop-y-preserved : goal.loop-y-preserved
loop-y-preserved c = SharesDivisors-next _ _ _ _ c.loop-y.invariant

pub returns-clause-divisor : goal.returns-clause-divisor
returns-clause-divisor c = c.loop-y.invariant.back _ (IsGcd-from_zero _ _ (omega arith))

pub returns-clause-scaled : goal.returns-clause-scaled
returns-clause-scaled c d factor p q = (c.loop-y.invariant.on d factor p q).0
