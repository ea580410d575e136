-- The lower schedule is read from its end.
use Rattle.std.proofs.Common.{refl}
use Rattle.msp_turn.specs.laws.ReversalRows.{reversal_46}
use Rattle.msp_turn.proofs.ReversalBounds.{reversible, brought_back}
use Rattle.msp_turn.proofs.trees.Row46Reduction.back.Goals as goal

pub reversed-requires-clause-reversible : goal.reversed-requires-clause-reversible
reversed-requires-clause-reversible c =
    reversible (reversal_46 c.args.inst.now c.requires.inner c.requires.applies) c.requires.inner c.args.lower c.requires.solution c.requires.bounded

pub returns : goal.returns
returns c = brought_back (reversal_46 c.args.inst.now c.requires.inner c.requires.applies) c.requires.inner c.args.lower
    c.requires.solution c.requires.bounded refl refl c.reversed.result c.reversed.ensures.schedule c.reversed.ensures.solution
