use Rattle.std.proofs.Common.{take}
use Rattle.msp_instance.specs.PathBits.{FollowsAll}
use Rattle.msp_instance.proofs.path_bits.follow_all.Given as goal

abbrev pub invariant-loop-arc : goal.invariant-loop-arc
invariant-loop-arc l = FollowsAll l.width (take l.arc-index l.arcs) l.fn.words l.words
