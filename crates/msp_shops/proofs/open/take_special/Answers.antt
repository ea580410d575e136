use Rattle.std.proofs.Common.{rules}
use Rattle.std.proofs.lemmas.List.Sorted.{IsNonDecreasingBy-from_sort_by_key}
use Rattle.msp_shops.specs.OpenOrder.{lesser}
use Rattle.msp_shops.proofs.OpenSteps.{all_popped, greatest_popped}
use Rattle.msp_shops.proofs.open.take_special.Goals as goal

pub returns-clause-all : goal.returns-clause-all
returns-clause-all c = all_popped c.args.times.now.items c.sort_unstable_by_key.new.self.items
    c.pop.new.self.items c.pop.result c.unwrap.result c.sort_unstable_by_key.ensures.permutation c.pop.ensures.items c.unwrap.ensures

pub returns-clause-greatest : goal.returns-clause-greatest
returns-clause-greatest c = greatest_popped c.sort_unstable_by_key.new.self.items c.pop.new.self.items c.pop.result c.unwrap.result
    (IsNonDecreasingBy-from_sort_by_key lesser _ c.sort_unstable_by_key.ensures.sorted (λ a r q k. search rules)) c.pop.ensures.items c.unwrap.ensures
