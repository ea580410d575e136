-- The lower schedule is read from its end.
use Rattle.std.proofs.Common.{refl}
use Rattle.msp_turn.specs.laws.ReversalDates.{reversal_47}
use Rattle.msp_turn.proofs.ReversalBounds.{reversible, brought_back}
use Rattle.msp_turn.proofs.dates.Row47Reduction.back.Goals as goal

pub reversed-requires-clause-reversible : goal.reversed-requires-clause-reversible
reversed-requires-clause-reversible c =
    reversible (reversal_47 c.args.inst.now c.requires.inner c.requires.applies) c.requires.inner c.args.lower c.requires.solution c.requires.bounded

pub returns : goal.returns
returns c = brought_back (reversal_47 c.args.inst.now c.requires.inner c.requires.applies) c.requires.inner c.args.lower
    c.requires.solution c.requires.bounded refl refl c.reversed.result c.reversed.ensures.schedule c.reversed.ensures.solution
