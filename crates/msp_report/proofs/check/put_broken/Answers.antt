-- The goals of `put_broken` that are proved by lemmas.
use Rattle.msp_report.proofs.CheckLemmas.{put_broken_is}
use Rattle.msp_report.proofs.check.put_broken.Goals as goal

pub returns : goal.returns
returns c = put_broken_is c.args.names.now c.args.broken c.args.out.now.items _ _ _ _ c.in_ok-put.ensures.added c.in_ok-put_break.ensures c.put-2.ensures.added
