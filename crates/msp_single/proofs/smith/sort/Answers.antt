use Rattle.std.proofs.Common.{◌<◌, rules}
use Rattle.std.proofs.lemmas.List.Sorted.{answers_always}
use Rattle.msp_single.specs.declared.smith.Load.{Load}
use Rattle.msp_single.proofs.SmithOrder.{smith_less, smith_less-order, smith_sorted}
use Rattle.msp_single.proofs.smith.sort.Goals as goal

takes : (l : Load) → 0 < l.time
takes l = l.takes_time

pub returns-clause-sorted : goal.returns-clause-sorted
returns-clause-sorted c =
    smith_sorted (λ l. l.job) (λ l. l.time) (λ l. l.weight) takes _
    (c.sort_unstable_by.ensures.sorted (smith_less (λ l. l.job) (λ l. l.time) (λ l. l.weight) takes)
    (smith_less-order (λ l. l.job) (λ l. l.time) (λ l. l.weight) takes) (answers_always _ _ _ (λ f a r g h. search rules)))
