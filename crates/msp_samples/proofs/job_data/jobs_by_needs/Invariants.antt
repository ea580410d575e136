-- The jobs of the needs so far.
use Rattle.std.proofs.Common.{◌≡◌, take, map}
use Rattle.msp_samples.specs.Samples.{plain_job}
use Rattle.msp_samples.proofs.job_data.jobs_by_needs.Given as goal

abbrev pub invariant-loop-needs : goal.invariant-loop-needs
invariant-loop-needs l = l.jobs ≡ map plain_job (map (λ needs. needs.now) (take l.needs-index l.all))
