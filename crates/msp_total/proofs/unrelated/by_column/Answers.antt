use Rattle.std.proofs.Common.{rules}
use Rattle.std.proofs.lemmas.List.Sorted.{IsNonDecreasingBy-from_sort_by_key}
use Rattle.msp_total.proofs.ColumnSteps.{by_column}
use Rattle.msp_total.proofs.unrelated.by_column.Goals as goal

pub returns : goal.returns
returns c =
    by_column c.args.column.now c.in_ok-chosen.chosen.items c.sort_by_key.new.self.items c.in_ok-chosen.ensures.jobs c.in_ok-chosen.ensures.columns c.sort_by_key.ensures.permutation
    (IsNonDecreasingBy-from_sort_by_key (λ r. r.column) c.sort_by_key.new.self.items c.in_ok-sort_by_key.ensures.sorted (λ a r q k. search rules))
