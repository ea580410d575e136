use Rattle.std.proofs.Common.{arith}
use Rattle.msp_cut_sums.proofs.Falling.{values_many, read_order}
use Rattle.msp_cut_sums.proofs.orders.jobs_by_weight.Goals as goal

pub jobs_by_falling_key-requires : goal.jobs_by_falling_key-requires
jobs_by_falling_key-requires c = omega (arith, values_many c.args.inst.now (λ j. j.weight) c.as_slice.result.now _ c.in_ok-weights.ensures c.as_slice.ensures.value, c.requires.few)

pub returns : goal.returns
returns c = read_order c.args.inst.now (λ j. j.weight) c.as_slice.result.now _ c.in_ok-weights.ensures c.as_slice.ensures.value
    (λ o. o.items) c.jobs_by_falling_key.result c.jobs_by_falling_key.ensures.all c.jobs_by_falling_key.ensures.falling
