use Rattle.std.proofs.Common.{◌≡◌, drop}
use Rattle.msp_uniform.specs.Segments.{at, rate_at, amount}
use Rattle.msp_uniform.specs.Plans.{IsTaped, DoHold}
use Rattle.msp_uniform.proofs.tape.lay_all.Given as goal

-- the jobs so far are on the tape, and each place before the last holds what it held
abbrev pub invariant-loop-job : goal.invariant-loop-job
invariant-loop-job l = record {
  taped : IsTaped l.task (drop l.job-index l.jobs) l.unit l.tape.place l.tape.early.items l.tape.late.items;
  rest : l.tape.rest ≡ amount (rate_at (at l.task.speeds.items) l.tape.place) l.tape.late.items;
  holds : DoHold l.task.speeds.items l.holds l.tape.place l.tape.early.items l.tape.late.items;
}
