use Rattle.msp_dispatch.proofs.Picks.{IsPick-given, no_route}
use Rattle.msp_dispatch.proofs.pick.given_pick.Goals as goal

pub returns-in-Some-2-clause-pick : goal.returns-in-Some-2-clause-pick
returns-in-Some-2-clause-pick c =
    IsPick-given c.args.from c.args.at c.in-Some.place c.in_ok-pick_at-in-Some.field-0 c.in-Some-2.pick c.in-Some-2.is c.in_ok-pick_at-in-Some.ensures.pick c.in-Some.ensures.some

pub returns-in-None-2-clause-fault : goal.returns-in-None-2-clause-fault
returns-in-None-2-clause-fault c = no_route c.args.from c.args.at c.in-Some.place c.in_ok-pick_at-in-Some.field-0 c.in-None-2.is c.in_ok-pick_at-in-Some.ensures.none c.in-Some.ensures.some
