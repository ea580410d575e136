-- What holds in the loop of `fill`.
use Rattle.std.proofs.Common.{◌≡◌, ◌-◌, length}
use Rattle.msp_cert_text.specs.Reading.{filled}
use Rattle.msp_cert_text.proofs.columns.fill.Given as goal

-- the prices so far, filled up, are those of the whole
abbrev pub invariant-prices : goal.invariant-prices
invariant-prices l = filled l.count l.prices ≡ filled l.count l.initial.prices

abbrev pub decreases-prices : goal.decreases-prices
decreases-prices l = l.count - length l.prices
