use Rattle.std.proofs.Common.{rules}
use Rattle.std.proofs.lemmas.List.Sorted.{answers_always}
use Rattle.msp_schedule.proofs.judging.OccupancyFacts.{occupancy_less, occupancy_less-order, occupancies_sorted}
use Rattle.msp_schedule.proofs.occupancies.sort.Goals as goal

pub returns-clause-sorted : goal.returns-clause-sorted
returns-clause-sorted c = occupancies_sorted _ (c.sort_unstable_by.ensures.sorted occupancy_less occupancy_less-order (answers_always _ _ _ (λ f a r g h. search rules)))
