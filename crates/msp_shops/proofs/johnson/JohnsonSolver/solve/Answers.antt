use Rattle.msp_shops.proofs.ShopClasses.{IsTwoMachineShop-from_johnson}
use Rattle.msp_shops.proofs.johnson.JohnsonSolver.solve.Goals as goal

pub in_series-requires-clause-shop : goal.in_series-requires-clause-shop
in_series-requires-clause-shop c = IsTwoMachineShop-from_johnson c.args.inst.now c.requires.inner c.requires.class
