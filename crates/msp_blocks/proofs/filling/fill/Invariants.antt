use Rattle.std.proofs.Common.{slice_index_or}
use Rattle.msp_pieces.specs.BackToBack.{time_at}
use Rattle.msp_blocks.proofs.Steps.{IsPartly}
use Rattle.msp_blocks.proofs.filling.fill.Given as goal

-- what is put so far
abbrev pub invariant-loop-place : goal.invariant-loop-place
invariant-loop-place l = IsPartly (λ j. slice_index_or l.heads j 0) (time_at l.inst) l.initial.pieces l.job l.begin l.end l.others l.place l.moment l.pieces
