use Rattle.std.proofs.Common.{◌+◌, length, get_or, slice_index}
use Rattle.msp_class.specs.Sums.{total_below}
use Rattle.msp_instance.specs.Paths.{leads}
use Rattle.msp_due.specs.Steps.{due_after}
use Rattle.msp_due.proofs.LoweredSlots.{counted_by, counted_few, IsLowered-same}
use Rattle.msp_due.proofs.lowering.lowered.Goals as goal

pub lowered_by-requires-clause-small : goal.lowered_by-requires-clause-small
lowered_by-requires-clause-small c =
    counted_few (length c.args.slots.now) (leads c.args.paths.now) (λ z. get_or c.args.slots.now z 0) c.args.job (slice_index c.counts_after-counts.result) c.counts_after-counts.ensures c.requires.few

pub returns : goal.returns
returns c =
    let n = length c.args.slots.now in
    let counts = slice_index c.counts_after-counts.result in
    IsLowered-same (n + 1) c.args.machines (λ x. total_below (x + 1) counts)
    (due_after n (leads c.args.paths.now) (λ z. get_or c.args.slots.now z 0) c.args.job) (get_or c.args.slots.now c.args.job 0) c.lowered_by.result
    (counted_by n (leads c.args.paths.now) (λ z. get_or c.args.slots.now z 0) c.args.job counts c.counts_after-counts.ensures) c.lowered_by.ensures
