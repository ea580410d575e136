-- The jobs are lined up from the last end to the first.
use Rattle.std.proofs.Common.{refl}
use Rattle.msp_turn.specs.LinedUp.{from_last}
use Rattle.msp_turn.specs.Exchanged.{exchanged}
use Rattle.msp_turn.specs.laws.ExchangeRows.{exchange_52}
use Rattle.msp_turn.proofs.BroughtBack.{IsFoundLine, each_of}
use Rattle.msp_turn.proofs.FromLast.{last_line}
use Rattle.msp_turn.proofs.exchange.Row52Reduction.back.Goals as goal
use Rattle.msp_turn.proofs.exchange.Row52Reduction.back.Goals.{After-deref}

found : (c : After-deref) → IsFoundLine 52 c.args.inst.now (exchanged 52 c.args.inst.now) (from_last c.args.inst.now c.args.lower.schedule) c.args.lower.schedule
    c.unsigned_abs.result c.deref.result.now
found c =
    let i = c.args.inst.now in
    last_line 52 i (exchanged 52 i) (exchange_52 i c.requires.inner c.requires.applies) (λ t upper. record { changes = refl; plain = refl; ends = λ moment e early. early }) c.requires.inner
    c.args.lower.schedule c.requires.solution.feasible c.requires.bounded c.unsigned_abs.result c.len.result _ _ c.unsigned_abs.ensures.value c.len.ensures c.deref.ensures.value
    c.in_ok-order.ensures.all c.in_ok-order.ensures.sorted

pub line_up-requires-clause-machine : goal.line_up-requires-clause-machine
line_up-requires-clause-machine c = (exchange_52 c.args.inst.now c.requires.inner c.requires.applies).env

pub line_up-requires-clause-all : goal.line_up-requires-clause-all
line_up-requires-clause-all c = (found c).all

pub line_up-requires-clause-unit : goal.line_up-requires-clause-unit
line_up-requires-clause-unit c = (found c).unit

pub line_up-requires-clause-feasible : goal.line_up-requires-clause-feasible
line_up-requires-clause-feasible c = (found c).feasible

pub returns : goal.returns
returns c =
    let h = each_of (found (goal.at.returns c).After-deref) c.line_up.result c.line_up.ensures in
    record { solution = h.0; law = h.1; same = h.2; bounds = h.3 }
