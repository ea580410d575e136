use Rattle.std.proofs.Common.{◌-◌, ltb, leb, length, take, drop, rules}
use Rattle.std.proofs.lemmas.List.Sorted.{IsPartitionPoint-from_clause, IsPartitionedBy-ltb, IsPartitionedBy-leb, IsNonDecreasingBy-take, IsNonDecreasingBy-drop}
use Rattle.msp_instance.proofs.ArcLemmas.{filter_between_cut}
use Rattle.msp_instance.proofs.arcs.leaving_of.Goals as goal

pub returns : goal.returns
returns c =
    let xs = c.args.sorted.now in
    let a = c.partition_point-first.result in
    let rest = take (length xs - a) (drop a xs) in
    filter_between_cut (λ x. x.before) c.args.job xs a c.partition_point-end.result
    (IsPartitionPoint-from_clause (λ x. ltb x.before c.args.job) xs _ c.partition_point-first.ensures.partitioned
    (IsPartitionedBy-ltb (λ x. x.before) xs c.args.job c.requires) (λ a r q k. search rules))
    (IsPartitionPoint-from_clause (λ x. leb x.before c.args.job) rest _ c.partition_point-end.ensures.partitioned
    (IsPartitionedBy-leb (λ x. x.before) rest c.args.job (IsNonDecreasingBy-take (λ x. x.before) _ _ (IsNonDecreasingBy-drop (λ x. x.before) a xs c.requires))) (λ a r q k. search rules))
