use Rattle.std.proofs.Common.{sym, subst}
use Rattle.msp_pieces.specs.Settled.{IsSettled}
use Rattle.msp_srpt.specs.Shortest.{IsShortestFirst}
use Rattle.msp_srpt.proofs.Best.{IsShortestSchedule-read}
use Rattle.msp_srpt.proofs.shortest.ShortestSolver.solve.Goals as goal

pub best_solution-requires-clause-best : goal.best_solution-requires-clause-best
best_solution-requires-clause-best c = (IsShortestSchedule-read c.args.inst.now c.requires.class c.requires.inner _ _ c.in_ok-pieces.ensures.1).best

pub returns-clause-rule : goal.returns-clause-rule
returns-clause-rule c = subst (λ s. IsShortestFirst c.args.inst.now s.pieces) (sym c.best_solution.ensures.schedule)
    (IsShortestSchedule-read c.args.inst.now c.requires.class c.requires.inner _ _ c.in_ok-pieces.ensures.1).rule

pub returns-clause-settled : goal.returns-clause-settled
returns-clause-settled c = subst IsSettled (sym c.best_solution.ensures.schedule) (IsShortestSchedule-read c.args.inst.now c.requires.class c.requires.inner _ _ c.in_ok-pieces.ensures.1).settled
