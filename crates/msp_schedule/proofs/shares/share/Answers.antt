use Rattle.std.proofs.lemmas.List.{take_rest}
use Rattle.msp_schedule.proofs.judging.JobShares.{share_at}
use Rattle.msp_schedule.proofs.shares.share.Goals as goal

pub returns : goal.returns
returns c = share_at c.args.pieces.now _ c.args.job c.count_before.result c.count_before-2.result (take_rest c.args.pieces.now c.count_before.result)
    c.count_before.ensures.before c.count_before.ensures.after c.count_before-2.ensures.before c.count_before-2.ensures.after
