-- the times of the jobs so far
use Rattle.std.proofs.Common.{◌≡◌, map, take}
use Rattle.msp_pieces.specs.BackToBack.{time_at}
use Rattle.msp_cut_sums.proofs.stacks.times_in.Given as goal

abbrev pub invariant-loop-job : goal.invariant-loop-job
invariant-loop-job l = l.times.items ≡ map (time_at l.inst) (take l.job-index l.order)
