use Rattle.std.proofs.Common.{sym, ap, subst}
use Rattle.msp_srpt.specs.EqualHeads.{RunByHeads, EndsFirst}
use Rattle.msp_srpt.proofs.HeadEnds.{IsHeadsAnswer-read}
use Rattle.msp_srpt.proofs.equal_heads.EqualHeadsSolver.solve.Goals as goal

pub best_solution-requires-clause-best : goal.best_solution-requires-clause-best
best_solution-requires-clause-best c = (IsHeadsAnswer-read c.args.inst.now c.requires.class c.requires.inner _ c.in_ok-pieces.ensures).best

pub returns-clause-ends : goal.returns-clause-ends
returns-clause-ends c = subst (EndsFirst c.args.inst.now) (sym c.best_solution.ensures.schedule) (IsHeadsAnswer-read c.args.inst.now c.requires.class c.requires.inner _ c.in_ok-pieces.ensures).ends

pub returns-clause-rule : goal.returns-clause-rule
returns-clause-rule c = subst (λ s. RunByHeads c.args.inst.now s.pieces) (sym c.best_solution.ensures.schedule) c.in_ok-pieces.ensures

pub returns-clause-unit : goal.returns-clause-unit
returns-clause-unit c = ap (λ s. s.unit) c.best_solution.ensures.schedule
