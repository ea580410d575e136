-- The goals of `put_costs` that are proved by lemmas.
use Rattle.msp_report.proofs.CheckLemmas.{put_costs_is}
use Rattle.msp_report.proofs.check.put_costs.Goals as goal

pub returns : goal.returns
returns c = put_costs_is c.args.cost c.args.stated c.args.agrees c.args.out.now.items _ _ _ _ _ _ _ _ c.in_ok-put.ensures.added c.in_ok-put_fraction.ensures.added
    c.in_ok-put-2.ensures.added c.in_ok-put_fraction-2.ensures.added c.in_ok-put-3.ensures.added c.in_ok-put_yes_or_no.ensures c.put-4.ensures.added
