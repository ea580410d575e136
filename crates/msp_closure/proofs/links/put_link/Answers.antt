-- The goals of `put_link` that are proved by lemmas.
use Rattle.std.proofs.Common.{sym, ◌∙◌}
use Rattle.msp_closure.specs.Tables.{allows}
use Rattle.msp_closure.proofs.LinkLemmas.{AddsLink-step, same_ends}
use Rattle.msp_closure.proofs.links.put_link.Goals as goal

pub returns-in_ok-push-clause-adds : goal.returns-in_ok-push-clause-adds
returns-in_ok-push-clause-adds c = AddsLink-step (allows c.args.rows) c.args.links.now.items _ c.args.c c.in-Some.to c.args.row _ c.in_ok-push.ensures.items
    (same_ends c.args.c c.in-Some.to _ _ c.rank.ensures.rank c.rank-in-Some.ensures.rank) (sym c.step-next.ensures ∙ c.in-Some.is)
