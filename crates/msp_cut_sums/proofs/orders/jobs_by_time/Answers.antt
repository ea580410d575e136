use Rattle.std.proofs.Common.{slice_index_or, arith}
use Rattle.msp_instance.specs.Instance.{no_need}
use Rattle.msp_cut_sums.proofs.Falling.{values_many, read_order}
use Rattle.msp_cut_sums.proofs.orders.jobs_by_time.Goals as goal

pub jobs_by_falling_key-requires : goal.jobs_by_falling_key-requires
jobs_by_falling_key-requires c =
    omega (arith, values_many c.args.inst.now (λ j. (slice_index_or j.needs 0 no_need).time) c.as_slice.result.now _ c.in_ok-times.ensures c.as_slice.ensures.value, c.requires.few)

pub returns : goal.returns
returns c = read_order c.args.inst.now (λ j. (slice_index_or j.needs 0 no_need).time) c.as_slice.result.now _ c.in_ok-times.ensures c.as_slice.ensures.value
    (λ o. o.items) c.jobs_by_falling_key.result c.jobs_by_falling_key.ensures.all c.jobs_by_falling_key.ensures.falling
