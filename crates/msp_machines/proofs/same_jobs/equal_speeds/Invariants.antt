-- A speed of 1 for each machine so far.
use Rattle.std.proofs.Common.{◌≡◌}
use Rattle.msp_machines.specs.Machines.{equal_speeds}
use Rattle.msp_machines.proofs.same_jobs.equal_speeds.Given as goal

abbrev pub invariant-loop : goal.invariant-loop
invariant-loop l = l.speeds ≡ equal_speeds l.counter
