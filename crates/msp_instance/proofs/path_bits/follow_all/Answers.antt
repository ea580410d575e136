use Rattle.std.proofs.Common.{arith}
use Rattle.msp_instance.proofs.JoinLemmas.{FollowsAll-more}
use Rattle.msp_instance.proofs.path_bits.follow_all.Goals as goal

pub loop-arc-preserved : goal.loop-arc-preserved
loop-arc-preserved c = FollowsAll-more c.args.width c.args.arcs.now c.loop-arc.arc-index _ c.args.words.now c.loop-arc.words c.follow.new.words
    (omega arith) c.requires.wide c.follow.auto.words c.follow.ensures c.loop-arc.invariant
