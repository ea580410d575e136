use Rattle.std.proofs.Common.{arith, below_more}
use Rattle.std.proofs.lemmas.Bool.{false≢true}
use Rattle.std.proofs.lemmas.Int.{ints}
use Rattle.msp_cert.proofs.prices.is_fair_on.Goals as goal

pub loop-k-preserved : goal.loop-k-preserved
loop-k-preserved c = below_more _ c.loop-k.k c.loop-k.invariant (grind (arith, ints))

pub returns-then-price-column : goal.returns-then-price-column
returns-then-price-column c = (λ e. absurd (false≢true e), λ h. let here = h c.loop-k.k c.loop-k-test.true in grind (arith, ints))
