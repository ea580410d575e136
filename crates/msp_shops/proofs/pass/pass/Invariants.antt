use Rattle.std.proofs.Common.{take}
use Rattle.msp_shops.specs.Pass.{HasPassed}
use Rattle.msp_shops.proofs.pass.pass.Given as goal

-- the jobs so far have passed
abbrev pub invariant-loop-job : goal.invariant-loop-job
invariant-loop-job l = HasPassed l.first l.second (take l.job-index l.jobs) l.fn.from l.at l.initial.pieces l.pieces
