use Rattle.std.proofs.Common.{◌≢◌, ℕ, ◌≤◌, arith}
use Rattle.msp_due.proofs.LoweredSlots.{fitted_is, fitted_fits, fitted_greatest}
use Rattle.msp_due.proofs.lowering.fitted.Goals as goal

pub returns-clause-fits : goal.returns-clause-fits
returns-clause-fits c first _ =
    fitted_fits c.args.slot c.args.after c.args.machines c.args.end c.min.result c.requires.some
    (fitted_is _ c.args.slot c.args.after c.args.machines c.args.end _ _ _ _ c.min.ensures c.saturating_sub.ensures c.div_ceil.ensures c.from.ensures c.from-2.ensures) first

pub returns-clause-greatest : goal.returns-clause-greatest
returns-clause-greatest c v l room =
    fitted_greatest c.args.slot c.args.after c.args.machines c.args.end c.min.result c.requires.some
    (fitted_is _ c.args.slot c.args.after c.args.machines c.args.end _ _ _ _ c.min.ensures c.saturating_sub.ensures c.div_ceil.ensures c.from.ensures c.from-2.ensures)
    v l (room (some c.args.after c.if-after-eq0.false))
  where
    some : (x : ℕ) → x ≢ 0 → 1 ≤ x
    some x h = grind arith
