use Rattle.msp_uniform.proofs.OrderRead.{read_order}
use Rattle.msp_uniform.proofs.orders.by_falling.Goals as goal

pub returns : goal.returns
returns c = read_order c.args.values.now (λ o. o.items) c.jobs_by_falling_key.result c.jobs_by_falling_key.ensures.all c.jobs_by_falling_key.ensures.falling
