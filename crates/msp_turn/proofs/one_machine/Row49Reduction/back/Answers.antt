-- The lower schedule serves.
use Rattle.std.proofs.Common.{refl}
use Rattle.msp_route.specs.Changes.{led}
use Rattle.msp_turn.specs.laws.OneMachine.{Recuts-49, led-env, led-cost, back_49}
use Rattle.msp_turn.proofs.BroughtBack.{brought_same}
use Rattle.msp_turn.proofs.one_machine.Row49Reduction.back.Goals as goal

pub returns : goal.returns
returns c =
    let i = c.args._inst.now in
    let r = Recuts-49 i c.requires.applies in
    let s = c.args.lower in
    let h = brought_same 49 i (led 49 i) s refl r.env (led-env 49 _ i r) (led-cost 49 _ i r s.schedule c.requires.solution.feasible.unit)
    (back_49 i s.schedule c.requires.inner c.requires.applies) c.requires.solution c.requires.bounded in
    record { solution = h.solution; law = h.law; same = h.same; bounds = h.bounds }
