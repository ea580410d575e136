use Rattle.std.proofs.Common.{arith}
use Rattle.msp_instance.proofs.MultipleLemmas.{IsLeastMultiple-from_wide}
use Rattle.msp_instance.proofs.speeds.common_multiple.Goals as goal

pub overflow_cast-divisor : goal.overflow_cast-divisor
overflow_cast-divisor c = omega (arith, (IsLeastMultiple-from_wide _ _ _ _ _ c.from.ensures c.from-2.ensures (omega arith) (omega arith) c.gcd-divisor.ensures.divisor c.gcd-divisor.ensures.scaled).3)

pub nonzero_div-result : goal.nonzero_div-result
nonzero_div-result c = (IsLeastMultiple-from_wide _ _ _ _ _ c.from.ensures c.from-2.ensures (omega arith) (omega arith) c.gcd-divisor.ensures.divisor c.gcd-divisor.ensures.scaled).2

pub returns-clause-least : goal.returns-clause-least
returns-clause-least c = (IsLeastMultiple-from_wide _ _ _ _ _ c.from.ensures c.from-2.ensures (omega arith) (omega arith) c.gcd-divisor.ensures.divisor c.gcd-divisor.ensures.scaled).0

pub returns-clause-some : goal.returns-clause-some
returns-clause-some c = (IsLeastMultiple-from_wide _ _ _ _ _ c.from.ensures c.from-2.ensures (omega arith) (omega arith) c.gcd-divisor.ensures.divisor c.gcd-divisor.ensures.scaled).1
