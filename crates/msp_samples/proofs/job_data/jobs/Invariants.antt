-- The jobs of the data so far.
use Rattle.std.proofs.Common.{◌≡◌, take, map}
use Rattle.msp_samples.specs.Samples.{job_of}
use Rattle.msp_samples.proofs.job_data.jobs.Given as goal

abbrev pub invariant-loop-data : goal.invariant-loop-data
invariant-loop-data l = l.jobs ≡ map job_of (take l.data-index l.all)
