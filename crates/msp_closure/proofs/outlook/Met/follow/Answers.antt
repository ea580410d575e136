-- The goals of `follow` that are proved by lemmas.
use Rattle.msp_closure.specs.Outlook.{Steps}
use Rattle.msp_closure.specs.Tables.{allows}
use Rattle.msp_closure.proofs.LinkLemmas.{AddsLinks-start, AddsLinks-next}
use Rattle.msp_closure.proofs.OutlookLemmas.{grows_none, grows_on, followed_none, followed_more}
use Rattle.msp_closure.proofs.outlook.Met.follow.Goals as goal

pub loop-k-init : goal.loop-k-init
loop-k-init c = (
  grows_none (Steps (allows c.args.rows) c.args.class) c.args.self.now.classes.items c.args.self.now.flags,
  followed_none (allows c.args.rows) c.args.class c.args.self.now.flags,
  AddsLinks-start (allows c.args.rows) c.args.self.now.links.items c.args.class,
)

pub loop-k-preserved : goal.loop-k-preserved
loop-k-preserved c = (
  grows_on (Steps (allows c.args.rows) c.args.class) _ _ _ _ _ _ c.loop-k.invariant.0 c.in_ok-follow_row.ensures.grows,
  followed_more (allows c.args.rows) c.args.class c.loop-k.k c.row_at.result _ _ c.row_at.ensures c.in_ok-follow_row.ensures.grows.keeps
      c.loop-k.invariant.1 c.in_ok-follow_row.ensures.followed,
  AddsLinks-next (allows c.args.rows) _ _ _ c.args.class c.loop-k.k c.row_at.result c.row_at.ensures c.in_ok-follow_row.ensures.links
      c.loop-k.invariant.2,
)
