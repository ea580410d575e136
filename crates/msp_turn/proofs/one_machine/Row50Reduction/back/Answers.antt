-- The jobs are lined up in the order of their ends.
use Rattle.std.proofs.Common.{refl}
use Rattle.std.proofs.lemmas.List.Sorted.{IsPermutation-refl}
use Rattle.msp_route.specs.Changes.{led}
use Rattle.msp_turn.specs.LinedUp.{by_ends}
use Rattle.msp_turn.specs.laws.OneMachine.{Recuts-50, led-env, lower_50, back_50}
use Rattle.msp_turn.proofs.ByEnds.{lines_50}
use Rattle.msp_turn.proofs.BroughtBack.{IsFoundLine, found_line, each_of}
use Rattle.msp_turn.proofs.one_machine.Row50Reduction.back.Goals as goal
use Rattle.msp_turn.proofs.one_machine.Row50Reduction.back.Goals.{After-deref}

found : (c : After-deref) → IsFoundLine 50 c.args.inst.now (led 50 c.args.inst.now) (by_ends c.args.inst.now c.args.lower.schedule) c.args.lower.schedule c.unsigned_abs.result c.deref.result.now
found c =
    let i = c.args.inst.now in
    let t = c.args.lower.schedule in
    let r = Recuts-50 i c.requires.applies in
    found_line 50 i (led 50 i) t (by_ends i t) (λ l. l) IsPermutation-refl refl (lines_50 i c.requires.inner c.requires.applies t c.requires.solution.feasible) r.env (led-env 50 _ i r)
    refl c.requires.inner (lower_50 i c.requires.inner c.requires.applies).inner (back_50 i t c.requires.inner c.requires.applies) c.requires.solution.feasible c.requires.bounded
    c.unsigned_abs.result c.len.result _ _ c.unsigned_abs.ensures.value c.len.ensures c.deref.ensures.value c.in_ok-order.ensures.all c.in_ok-order.ensures.sorted

pub line_up-requires-clause-machine : goal.line_up-requires-clause-machine
line_up-requires-clause-machine c = (Recuts-50 c.args.inst.now c.requires.applies).env

pub line_up-requires-clause-unit : goal.line_up-requires-clause-unit
line_up-requires-clause-unit c = (found c).unit

pub line_up-requires-clause-feasible : goal.line_up-requires-clause-feasible
line_up-requires-clause-feasible c = (found c).feasible

pub returns : goal.returns
returns c =
    let h = each_of (found (goal.at.returns c).After-deref) c.line_up.result c.line_up.ensures in
    record { solution = h.0; law = h.1; same = h.2; bounds = h.3 }
