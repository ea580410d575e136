use Rattle.std.proofs.Common.{◌≢◌, sym, subst, refl}
use Rattle.std.specs.Prelude.{◌↔◌, IfOk, IsTrue}
use Rattle.msp_instance.specs.declared.Instance.{Instance}
use Rattle.msp_carry.specs.Carried.{carried}
use Rattle.msp_route.specs.declared.answer.SolverName.{SolverName}
use Rattle.msp_route.specs.declared.answer.SolverName.TheVariants as solver
use Rattle.msp_dispatch.specs.Solved.{Fits}
use Rattle.msp_dispatch.proofs.fit.fits_at.Goals as goal

pub returns-in-UniformCut : goal.returns-in-UniformCut
returns-in-UniformCut c = subst (λ name. IfOk c.fits_along.result (λ fits. IsTrue fits ↔ Fits name (carried c.args.rows.now c.args.inst.now))) (sym c.in-UniformCut.is) c.fits_along.ensures

-- a solver without a limit of its own can solve each instance
fits_any : (name : SolverName) (i : Instance) → name ≢ solver.UniformCut → name ≢ solver.LateTable → Fits name i
fits_any solver.UniformCut i a b = absurd (a refl)
fits_any solver.LateTable i a b = absurd (b refl)
fits_any _ i a b = tt

pub returns-in_default : goal.returns-in_default
returns-in_default c = (λ _. fits_any c.args.name _ c.in_default.not-UniformCut c.in_default.not-LateTable, λ _. refl)
