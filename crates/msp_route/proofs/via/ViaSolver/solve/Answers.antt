use Rattle.std.proofs.Common.{◌≡◌, ℕ, Some, refl, sym, ap, subst, ◌∙◌}
use Rattle.std.specs.Prelude.{IsSome}
use Rattle.msp_class.specs.declared.class.Class.{Class}
use Rattle.msp_instance.specs.Conditions.{Inner}
use Rattle.msp_pieces.specs.Cost.{Best, IsBest}
use Rattle.msp_table.specs.Rows.{goes_of}
use Rattle.msp_route.specs.Bounds.{IsBounded, IsAnswer}
use Rattle.msp_route.proofs.Composed.{IsBounded-from_answer, IfOk-best, IfOk-answer}
use Rattle.msp_route.proofs.EarlyAnswers.{turned_cost}
use Rattle.msp_route.proofs.via.ViaSolver.solve.Goals as goal

applies : (row : ℕ) (a from to : Class) → a ≡ from → goes_of row from ≡ Some to → IsSome (goes_of row a)
applies row a from to e leads = subst IsSome (sym (ap (goes_of row) e ∙ leads)) refl

led_class : (row : ℕ) (a from to lower : Class) → a ≡ from → goes_of row from ≡ Some to → goes_of row a ≡ Some lower → lower ≡ to
led_class row a from to lower e leads l = let same : Some lower ≡ Some to = sym l ∙ ap (goes_of row) e ∙ leads in cc

pub down-requires-clause-applies : goal.down-requires-clause-applies
down-requires-clause-applies g c = applies _ _ _ _ c.requires.class c.args.self.now.leads

pub solve-requires-clause-inner : goal.solve-requires-clause-inner
solve-requires-clause-inner g c = subst Inner (sym c.in_ok-lower.ensures)
    (g.met.R.Reduction.lower_is c.args.self.now.first c.args.inst.now c.requires.inner (applies _ _ _ _ c.requires.class c.args.self.now.leads)).inner

pub solve-requires-clause-class : goal.solve-requires-clause-class
solve-requires-clause-class g c = ap (λ j. j.class) c.in_ok-lower.ensures ∙ led_class _ _ _ _ _ c.requires.class c.args.self.now.leads
    (g.met.R.Reduction.lower_is c.args.self.now.first c.args.inst.now c.requires.inner (applies _ _ _ _ c.requires.class c.args.self.now.leads)).class

pub solve-requires-clause-fits : goal.solve-requires-clause-fits
solve-requires-clause-fits g c = subst (g.S.Solver.can_solve c.args.self.now.second) (sym c.in_ok-lower.ensures) c.requires.fits

pub back-requires-clause-applies : goal.back-requires-clause-applies
back-requires-clause-applies g c = applies _ _ _ _ c.requires.class c.args.self.now.leads

pub back-requires-clause-solution : goal.back-requires-clause-solution
back-requires-clause-solution g c =
    let s = subst (λ j. IsBest j c.in_ok-solution.solution) c.in_ok-lower.ensures c.in_ok-solution.ensures.best in
    record { feasible = s.best.feasible; cost = s.cost }

pub back-requires-clause-bounded : goal.back-requires-clause-bounded
back-requires-clause-bounded g c = subst (λ j. IsBounded j c.in_ok-solution.solution.schedule) c.in_ok-lower.ensures (IsBounded-from_answer _ _ c.in_ok-solution.ensures.bounds)

pub returns-clause-best : goal.returns-clause-best
returns-clause-best g c =
    let first = c.args.self.now.first in
    let inst = c.args.inst.now in
    let applied = applies _ _ _ _ c.requires.class c.args.self.now.leads in
    IfOk-best (g.R.Reduction.rate first inst) inst (g.R.Reduction.lower_of first inst) (g.R.Reduction.forth first inst) c.in_ok-solution.solution.schedule c.back.result
    (g.met.R.Reduction.rate_is first inst c.requires.inner applied) (λ u. g.met.R.Reduction.forth_is first inst u c.requires.inner applied)
    (subst (λ j. Best j c.in_ok-solution.solution.schedule) c.in_ok-lower.ensures c.in_ok-solution.ensures.best.best) c.back.ensures.solution c.back.ensures.law

pub returns-clause-bounds : goal.returns-clause-bounds
returns-clause-bounds g c =
    let first = c.args.self.now.first in
    let inst = c.args.inst.now in
    let t = c.in_ok-solution.solution.schedule in
    let applied = applies _ _ _ _ c.requires.class c.args.self.now.leads in
    let led = g.met.R.Reduction.lower_is first inst c.requires.inner applied in
    let answer = subst (λ j. IsAnswer j t) c.in_ok-lower.ensures c.in_ok-solution.ensures.bounds in
    let best = subst (λ j. Best j t) c.in_ok-lower.ensures c.in_ok-solution.ensures.best.best in
    IfOk-answer (g.R.Reduction.number first) inst (g.R.Reduction.lower_of first inst) t c.back.result led answer
    (λ turns. turned_cost (g.R.Reduction.number first) inst (g.R.Reduction.lower_of first inst) t turns led best answer.unit) c.back.ensures.bounds
