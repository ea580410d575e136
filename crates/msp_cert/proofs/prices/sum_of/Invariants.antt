use Rattle.msp_cert.proofs.PriceFacts.{IsSum}
use Rattle.msp_cert.proofs.prices.sum_of.Given as goal

-- the prices so far together
abbrev pub invariant-loop-k : goal.invariant-loop-k
invariant-loop-k l = IsSum l.prices l.k l.sum
