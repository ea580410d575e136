use Rattle.std.proofs.lemmas.List.Sorted.{IsPermutation-map}
use Rattle.msp_srpt.proofs.Queue.{precedes_all}
use Rattle.msp_srpt.proofs.shortest.take_first.Goals as goal

pub returns-in-Some-clause-tasks : goal.returns-in-Some-clause-tasks
returns-in-Some-clause-tasks c = IsPermutation-map (λ x. x.0) _ _ c.in-Some.ensures.permutation

pub returns-in-Some-clause-first : goal.returns-in-Some-clause-first
returns-in-Some-clause-first c = precedes_all _ _ (c.in-Some.ensures.below_top c.requires.queue)
