use Rattle.std.proofs.Common.{◌-◌, ◌+◌, ◌*◌, ◌≤◌, length, slice_index_or}
use Rattle.msp_class.specs.declared.sizes.TheConstants.{MOST_JOBS, GREATEST}
use Rattle.msp_pieces.specs.BackToBack.{time_at}
use Rattle.msp_blocks.specs.Filling.{IsFirstBlock}
use Rattle.msp_blocks.proofs.filling.first_block.Given as goal

-- the block so far
abbrev pub invariant-loop-end : goal.invariant-loop-end
invariant-loop-end l = record {
  block : IsFirstBlock (λ j. slice_index_or l.heads j 0) (time_at l.inst) l.left l.count l.end;
  small : l.end ≤ GREATEST * (MOST_JOBS + 2 + l.count);
}

abbrev pub decreases-loop-end : goal.decreases-loop-end
decreases-loop-end l = length l.left - l.count
