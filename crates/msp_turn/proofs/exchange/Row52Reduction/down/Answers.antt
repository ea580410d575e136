-- Times and weights are in each other's range.
use Rattle.msp_turn.specs.laws.ExchangeRows.{exchange_52}
use Rattle.msp_turn.proofs.exchange.Row52Reduction.down.Goals as goal

pub exchanged-requires-clause-jobs : goal.exchanged-requires-clause-jobs
exchanged-requires-clause-jobs c = (exchange_52 c.args.inst.now c.requires.inner c.requires.applies).jobs
