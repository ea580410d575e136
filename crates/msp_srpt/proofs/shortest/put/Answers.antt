use Rattle.std.proofs.lemmas.List.Sorted.{IsPermutation-map}
use Rattle.msp_srpt.proofs.shortest.put.Goals as goal

pub returns-clause-tasks : goal.returns-clause-tasks
returns-clause-tasks c = IsPermutation-map (λ x. x.0) _ _ c.in_ok-push.ensures.permutation
