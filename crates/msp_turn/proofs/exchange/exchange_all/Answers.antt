-- One more job is exchanged.
use Rattle.std.proofs.Common.{rules}
use Rattle.msp_turn.specs.Exchanged.{exchanged_job}
use Rattle.msp_route.proofs.InPlace.{changed_next}
use Rattle.msp_turn.proofs.ExchangeSteps.{next_exchangeable}
use Rattle.msp_turn.proofs.exchange.exchange_all.Goals as goal

pub exchange-requires : goal.exchange-requires
exchange-requires c = next_exchangeable c.args.jobs.now c.loop-job.jobs c.loop-job.job-index c.job-item.result c.loop-job-test.true c.loop-job.invariant c.requires

pub loop-job-preserved : goal.loop-job-preserved
loop-job-preserved c = changed_next exchanged_job c.args.jobs.now c.loop-job.jobs c.loop-job.job-index c.job-item.result c.exchange.new.job (search rules) c.loop-job.invariant c.exchange.ensures
