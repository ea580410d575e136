use Rattle.std.proofs.Common.{subst}
use Rattle.std.specs.Prelude.{slice_get, IfNone, IfOk, IfSome}
use Rattle.msp_table.specs.Rows.{carries}
use Rattle.msp_table.specs.Chains.{Reaches}
use Rattle.msp_dispatch.specs.Pick.{StandsAt, IsRoute}
use Rattle.msp_dispatch.specs.Solved.{solved_list}
use Rattle.msp_dispatch.proofs.pick.pick_at.Goals as goal

pub returns-clause-none : goal.returns-clause-none
returns-clause-none c = subst (λ from. IfOk c.pick_along.result (λ found. IfNone found (IfSome (slice_get solved_list c.args.place) (λ e. ¬ Reaches carries from e.class))))
    c.in_ok-routes.ensures c.pick_along.ensures.none

pub returns-clause-pick : goal.returns-clause-pick
returns-clause-pick c = subst (λ from. IfOk c.pick_along.result (λ found. IfSome found (λ p. StandsAt c.args.place p.entry × IsRoute from p))) c.in_ok-routes.ensures c.pick_along.ensures.pick
