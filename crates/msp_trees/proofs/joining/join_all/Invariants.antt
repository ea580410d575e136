-- Joined blocks, fewer in each round.
use Rattle.std.proofs.Common.{◌<◌, length}
use Rattle.msp_trees.specs.Horn.{JoinTo}
use Rattle.msp_trees.specs.Joining.{AreJoined}
use Rattle.msp_trees.proofs.joining.join_all.Given as goal

-- some blocks are left
abbrev pub invariant-loop-blocks : goal.invariant-loop-blocks
invariant-loop-blocks l = record {
  some : 0 < length l.blocks.items;
  join : JoinTo l.inst l.fn.blocks.items l.blocks.items;
  joined : AreJoined l.inst l.blocks.items;
}

abbrev pub decreases-loop-blocks : goal.decreases-loop-blocks
decreases-loop-blocks l = length l.blocks.items
