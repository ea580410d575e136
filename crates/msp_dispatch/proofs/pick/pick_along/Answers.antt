use Rattle.std.proofs.Common.{sym, ◌∙◌}
use Rattle.msp_dispatch.proofs.Picks.{IsRoute-from_way}
use Rattle.msp_dispatch.proofs.pick.pick_along.Goals as goal

pub returns-in-Some-2-clause-pick : goal.returns-in-Some-2-clause-pick
returns-in-Some-2-clause-pick c = (
  sym c.entry_at.ensures ∙ c.in-Some.is,
  IsRoute-from_way c.args.routes.now c.args.place c.in-Some.entry c.in_ok-route-in-Some.field-0
      c.in-Some-2.chain c.in-Some-2.is (sym c.entry_at.ensures ∙ c.in-Some.is) c.in_ok-route-in-Some.ensures.way c.in_ok-route-in-Some.ensures.few,
)
