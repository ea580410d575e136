use Rattle.std.proofs.Common.{List, ℕ, All, sym, subst}
use Rattle.msp_instance.specs.Conditions.{GoesForward}
use Rattle.msp_route.proofs.heads.heads_of.Goals as goal

pub put_heads-requires-clause-forward : goal.put_heads-requires-clause-forward
put_heads-requires-clause-forward c = subst (λ (order : List ℕ). All (GoesForward order) c.args.inst.now.arcs) (sym c.as_slice-2.ensures) c.in-Ok.ensures.forward
