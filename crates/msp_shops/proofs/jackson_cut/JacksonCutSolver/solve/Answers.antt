use Rattle.std.specs.Prelude.{true}
use Rattle.msp_shops.proofs.ShopClasses.{IsTwoMachineShop-from_jackson}
use Rattle.msp_shops.proofs.jackson_cut.JacksonCutSolver.solve.Goals as goal

pub in_series-requires-clause-shop : goal.in_series-requires-clause-shop
in_series-requires-clause-shop c = IsTwoMachineShop-from_jackson c.args.inst.now true c.requires.inner c.requires.class
