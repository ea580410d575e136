use Rattle.std.proofs.Common.{◌+◌, ltb, rules}
use Rattle.std.proofs.lemmas.List.Sorted.{IsPartitionPoint-from_clause}
use Rattle.msp_stairs.proofs.Laying.{parted, place_found}
use Rattle.msp_stairs.proofs.climb.too_high.Goals as goal

pub returns : goal.returns
returns c =
    let t = c.args.task.now in
    let xs = c.args.stairs.now in
    place_found t xs _ c.partition_point.ensures.bound
    (IsPartitionPoint-from_clause (λ s. ltb t.due (s.end + t.time)) xs _ c.partition_point.ensures.partitioned (parted t t.due xs c.requires) (λ a r q k. search rules))
