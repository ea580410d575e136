use Rattle.std.proofs.Common.{subst, arith}
use Rattle.std.specs.Prelude.{slice_get, IfNone, IfSome}
use Rattle.msp_table.specs.Rows.{carries}
use Rattle.msp_table.specs.Chains.{Reaches}
use Rattle.msp_dispatch.specs.Solved.{solved_list}
use Rattle.msp_dispatch.proofs.Picks.{IsPick-first, none_led, places_next}
use Rattle.msp_dispatch.proofs.pick.first_along.Goals as goal

pub returns-in-Some-clause-pick : goal.returns-in-Some-clause-pick
returns-in-Some-clause-pick c = IsPick-first c.args.routes.now c.loop-place.place c.in_ok-pick.field-0 c.in-Some.pick c.in-Some.is c.in_ok-pick.ensures.pick c.loop-place.invariant

pub returns-clause-none : goal.returns-clause-none
returns-clause-none c = none_led c.args.routes.now c.loop-place.place (omega (arith, c.loop-place-test.false)) c.loop-place.invariant

pub loop-place-preserved : goal.loop-place-preserved
loop-place-preserved c =
    places_next (λ k. IfSome (slice_get solved_list k) (λ e. ¬ Reaches carries c.args.routes.now e.class)) c.loop-place.place c.loop-place.invariant
    (subst (λ o. IfNone o (IfSome (slice_get solved_list c.loop-place.place) (λ e. ¬ Reaches carries c.args.routes.now e.class))) c.in_default.is c.in_ok-pick.ensures.none)
