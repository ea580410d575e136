use Rattle.std.proofs.Common.{false, slice_index_or}
use Rattle.msp_pieces.specs.Blocks.{cost_at}
use Rattle.msp_route.specs.Candidates.{IsFound}
use Rattle.msp_route.proofs.last_job.least_of.Given as goal

-- what was found so far
abbrev pub invariant-loop-place : goal.invariant-loop-place
invariant-loop-place l = IsFound l.jobs (λ j. slice_index_or l.blocked j false) (λ j. cost_at l.inst j l.moment) l.place l.best
