use Rattle.std.proofs.Common.{ltb, ltb-true, ltb-false, ◌<◌, ◌≤◌, rules}
use Rattle.std.proofs.lemmas.List.Sorted.{IsPartitionPoint-from_clause, IsPartitionedBy-ltb}
use Rattle.msp_schedule.proofs.judging.JobShares.{All-before, All-after}
use Rattle.msp_schedule.proofs.shares.count_before.Goals as goal

pub returns-clause-before : goal.returns-clause-before
returns-clause-before c =
    let parted = IsPartitionedBy-ltb (λ p. p.job) _ c.args.job c.requires.sorted in
    let point = IsPartitionPoint-from_clause (λ p. ltb p.job c.args.job) _ _ c.partition_point.ensures.partitioned parted (λ a r q k. search rules) in
    All-before (λ p. p.job < c.args.job) c.args.pieces.now c.partition_point.result c.partition_point.ensures.bound (λ k d l h. ltb-true _ _ (point.0 k d l h))

pub returns-clause-after : goal.returns-clause-after
returns-clause-after c =
    let parted = IsPartitionedBy-ltb (λ p. p.job) _ c.args.job c.requires.sorted in
    let point = IsPartitionPoint-from_clause (λ p. ltb p.job c.args.job) _ _ c.partition_point.ensures.partitioned parted (λ a r q k. search rules) in
    All-after (λ p. c.args.job ≤ p.job) c.args.pieces.now c.partition_point.result c.partition_point.ensures.bound (λ k d l h. ltb-false _ _ (point.1 k d l h))
