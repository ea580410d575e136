use Rattle.msp_lexical.proofs.Ranks.{AreRanks-next}
use Rattle.msp_lexical.proofs.rule.ranks_of.Goals as goal

pub loop-job-preserved : goal.loop-job-preserved
loop-job-preserved c = AreRanks-next c.args.count c.args.labels.now _ _ c.loop-job.job _ c.in_ok-push.ensures.items c.from.ensures c.loop-job.invariant
