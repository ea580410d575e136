use Rattle.std.proofs.Common.{◌∙◌, rules}
use Rattle.std.proofs.lemmas.Int.{to_z-of_z}
use Rattle.std.specs.Int.{w128}
use Rattle.msp_wrap.proofs.Best.{IsBestAnswer-wrap, IsWrapCost-read}
use Rattle.msp_wrap.proofs.wrap.WrapSolver.solve.Goals as goal

pub best_solution-requires-clause-best : goal.best_solution-requires-clause-best
best_solution-requires-clause-best c =
    IsBestAnswer-wrap c.args.inst.now c.requires.class c.requires.inner _ _ _ c.common_end.ensures.value (to_z-of_z w128 _ (search rules) ∙ c.from.ensures) c.in_ok-pieces.ensures

pub returns-clause-cost : goal.returns-clause-cost
returns-clause-cost c = IsWrapCost-read c.args.inst.now c.requires.class c.requires.inner _ _
    _ c.common_end.ensures.value (to_z-of_z w128 _ (search rules) ∙ c.from.ensures) c.in_ok-pieces.ensures c.best_solution.result.cost c.best_solution.ensures.cost
