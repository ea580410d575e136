use Rattle.std.proofs.Common.{None, subst}
use Rattle.std.specs.Prelude.{Contains, IfNone, IfOk, IfSome}
use Rattle.msp_class.specs.declared.class.Class.{Class}
use Rattle.msp_table.specs.Rows.{carries}
use Rattle.msp_table.specs.Chains.{Reaches}
use Rattle.msp_dispatch.specs.Pick.{IsPick}
use Rattle.msp_dispatch.specs.Solved.{solved_classes}
use Rattle.msp_dispatch.proofs.pick.first_reached.Goals as goal

pub returns-clause-pick : goal.returns-clause-pick
returns-clause-pick c = subst (λ from. IfOk c.first_along.result (λ found. IfSome found (IsPick from None))) c.in_ok-routes.ensures c.first_along.ensures.pick

pub returns-clause-none : goal.returns-clause-none
returns-clause-none c = subst (λ from. IfOk c.first_along.result (λ found. IfNone found ((target : Class) → Contains solved_classes target → ¬ Reaches carries from target)))
    c.in_ok-routes.ensures c.first_along.ensures.none
