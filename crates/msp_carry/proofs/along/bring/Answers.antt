-- The bounds of what is brought back.
use Rattle.std.proofs.Common.{sym, subst}
use Rattle.msp_pieces.specs.Cost.{IsSolution}
use Rattle.msp_carry.specs.Carried.{IsChainTo}
use Rattle.msp_carry.proofs.ChainSteps.{IfOk-within}
use Rattle.msp_carry.proofs.along.bring.Goals as goal

pub returns-clause-within : goal.returns-clause-within
returns-clause-within c =
    let chain = subst (λ rows. IsChainTo c.args.inst.now rows c.requires.chain.0) (sym c.as_slice.ensures) c.requires.chain.1 in
    IfOk-within (IsSolution c.args.inst.now) c.args.inst.now c.as_slice.result.now c.requires.chain.0 c.bring_over.result chain (λ s h. h.feasible)
    c.bring_over.ensures.solution c.bring_over.ensures.sized c.bring_over.ensures.ends
