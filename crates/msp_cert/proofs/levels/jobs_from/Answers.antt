use Rattle.std.proofs.Common.{arith}
use Rattle.std.specs.Prelude.{nat_le}
use Rattle.msp_cert.specs.Certificates.{of_job}
use Rattle.msp_class.proofs.Sums.{cond-le}
use Rattle.msp_cert.proofs.Apart.{count_next}
use Rattle.msp_cert.proofs.levels.jobs_from.Goals as goal

pub loop-job-preserved : goal.loop-job-preserved
loop-job-preserved c = record {
  value = count_next (λ j. nat_le c.args.tail (of_job c.args.level.now j)) c.loop-job.high c.loop-job.job c.one_if_high-high.result c.one_if_high-high.ensures c.loop-job.invariant.value;
  size = omega (arith, c.one_if_high-high.ensures, cond-le (nat_le c.args.tail (of_job c.args.level.now c.loop-job.job)) 1, c.loop-job.invariant.size);
}
