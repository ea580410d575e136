use Rattle.msp_total.proofs.PositionPrices.{ArePricesOfBest-positioned, TakePositions-positioned, KeepsPricesSmall-positioned}
use Rattle.msp_total.proofs.unrelated.solve_with_prices.Goals as goal
use Rattle.msp_pieces.proofs.feasible.OfClass.{IsOfClass-from}
use Rattle.msp_total.specs.Classes.{unrelated_class}

pub returns-clause-prices : goal.returns-clause-prices
returns-clause-prices c =
    let h = IsOfClass-from c.args.inst.now unrelated_class c.requires.class c.requires.inner in
    ArePricesOfBest-positioned c.args.inst.now h c.in_ok-table.table c.in_ok-table.ensures c.in_ok-prices.prices c.in_ok-prices.ensures

pub returns-clause-positions : goal.returns-clause-positions
returns-clause-positions c =
    let h = IsOfClass-from c.args.inst.now unrelated_class c.requires.class c.requires.inner in
    TakePositions-positioned c.args.inst.now h c.in_ok-table.table c.in_ok-table.ensures c.in_ok-prices.prices c.in_ok-prices.ensures

pub returns-clause-small : goal.returns-clause-small
returns-clause-small c =
    let h = IsOfClass-from c.args.inst.now unrelated_class c.requires.class c.requires.inner in
    KeepsPricesSmall-positioned c.args.inst.now h c.in_ok-table.table c.in_ok-table.ensures c.in_ok-prices.prices c.in_ok-prices.ensures
