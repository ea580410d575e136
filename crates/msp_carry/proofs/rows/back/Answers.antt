-- What is asked and what comes back, clause by clause.
use Rattle.std.proofs.lemmas.Result.{IfOk-weaker}
use Rattle.msp_pieces.specs.Cost.{IsSolution, IsBest}
use Rattle.msp_carry.proofs.rows.back.Goals as goal

pub returns-clause-solution : goal.returns-clause-solution
returns-clause-solution c = IfOk-weaker c.back_at_row.result _ (IsSolution c.args.inst.now) (λ s is. is.solution) c.back_at_row.ensures

pub returns-clause-best : goal.returns-clause-best
returns-clause-best c = λ best. IfOk-weaker c.back_at_row.result _ (IsBest c.args.inst.now) (λ s is. is.best best) c.back_at_row.ensures

pub returns-clause-law : goal.returns-clause-law
returns-clause-law c = IfOk-weaker c.back_at_row.result _ _ (λ s is. is.law) c.back_at_row.ensures

pub returns-clause-bounds : goal.returns-clause-bounds
returns-clause-bounds c = IfOk-weaker c.back_at_row.result _ _ (λ s is. is.bounds) c.back_at_row.ensures
