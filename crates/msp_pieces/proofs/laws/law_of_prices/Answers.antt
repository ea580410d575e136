use Rattle.msp_pieces.proofs.bounds.PriceBounds.{law_of_prices}
use Rattle.msp_pieces.proofs.laws.law_of_prices.Goals as goal

pub returns : goal.returns
returns c = law_of_prices
