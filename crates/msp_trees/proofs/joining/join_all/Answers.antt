-- One more block is joined.
use Rattle.std.proofs.Common.{rules}
use Rattle.msp_trees.specs.Horn.{nothing_joined, one_more}
use Rattle.msp_trees.proofs.joining.join_all.Goals as goal

pub loop-blocks-init : goal.loop-blocks-init
loop-blocks-init c = record { some = c.requires.some; join = nothing_joined; joined = c.requires.joined }

pub loop-blocks-preserved : goal.loop-blocks-preserved
loop-blocks-preserved c = record {
  some = search rules;
  join = one_more c.loop-blocks.invariant.join c.in_ok-join_next.ensures.joins;
  joined = c.in_ok-join_next.ensures.joined;
}
