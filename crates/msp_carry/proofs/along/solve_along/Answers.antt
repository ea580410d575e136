-- The bounds of what is brought back.
use Rattle.std.proofs.Common.{sym, subst}
use Rattle.msp_pieces.specs.Cost.{IsBest}
use Rattle.msp_carry.specs.Carried.{IsChainTo}
use Rattle.msp_carry.proofs.ChainSteps.{IfOk-within}
use Rattle.msp_carry.proofs.along.solve_along.Goals as goal

pub returns-clause-within : goal.returns-clause-within
returns-clause-within g c =
    let last = g.S.Solver.solved c.args.solver.now in
    let chain = subst (λ rows. IsChainTo c.args.inst.now rows last) (sym c.as_slice.ensures) c.requires.chain in
    IfOk-within (IsBest c.args.inst.now) c.args.inst.now c.as_slice.result.now last c.solve_over.result chain (λ s h. h.best.feasible)
    c.solve_over.ensures.best c.solve_over.ensures.sized c.solve_over.ensures.ends
