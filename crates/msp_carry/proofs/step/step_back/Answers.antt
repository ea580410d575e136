-- A best schedule brought back is best, and costs are translated as the table says.
use Rattle.std.proofs.Common.{IfOk, subst}
use Rattle.msp_pieces.specs.Cost.{IsBest}
use Rattle.msp_route.specs.Law.{IsBack}
use Rattle.msp_route.proofs.Composed.{IfOk-best}
use Rattle.msp_carry.proofs.StepFacts.{IfOk-brought}
use Rattle.msp_carry.proofs.step.step_back.Goals as goal

pub returns : goal.returns
returns g c =
    let reduction = c.args.reduction.now in
    let inst = c.args.inst.now in
    let lower = g.R.Reduction.lower_of reduction inst in
    let best = λ (best : IsBest lower c.args.solution).
    IfOk-best (g.R.Reduction.rate reduction inst) inst lower (g.R.Reduction.forth reduction inst) c.args.solution.schedule c.back.result
    (g.met.R.Reduction.rate_is reduction inst c.requires.inner c.requires.applies) (λ u. g.met.R.Reduction.forth_is reduction inst u c.requires.inner c.requires.applies)
    best.best c.back.ensures.solution c.back.ensures.law in
    let law = subst (λ r. IfOk c.back.result (λ s. IsBack r inst lower c.args.solution.schedule s.schedule)) (g.met.R.Reduction.rate_of_row reduction inst) c.back.ensures.law in
    IfOk-brought (g.R.Reduction.number reduction) inst lower c.args.solution c.back.result c.back.ensures.solution best law c.back.ensures.bounds
