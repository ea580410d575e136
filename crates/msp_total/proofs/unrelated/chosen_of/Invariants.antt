-- the jobs so far
use Rattle.std.proofs.Common.{◌≡◌, map, All}
use Rattle.std.specs.List.{range_with_len}
use Rattle.msp_assign.specs.Prices.{column_of}
use Rattle.msp_total.proofs.unrelated.chosen_of.Given as goal

abbrev pub invariant-loop-k : goal.invariant-loop-k
invariant-loop-k l = record {
  jobs : map (λ c. c.job) l.all.items ≡ range_with_len 0 l.k;
  columns : All (λ c. c.column ≡ column_of l.column c.job) l.all.items;
}
