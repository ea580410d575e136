use Rattle.std.specs.Prelude.{false}
use Rattle.msp_shops.proofs.ShopClasses.{IsTwoMachineShop-from_jackson}
use Rattle.msp_shops.proofs.jackson.JacksonSolver.solve.Goals as goal

pub in_series-requires-clause-shop : goal.in_series-requires-clause-shop
in_series-requires-clause-shop c = IsTwoMachineShop-from_jackson c.args.inst.now false c.requires.inner c.requires.class
