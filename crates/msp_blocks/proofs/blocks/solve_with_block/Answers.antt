use Rattle.std.proofs.Common.{ap, inl}
use Rattle.msp_blocks.proofs.blocks.solve_with_block.Goals as goal

pub schedule_by_blocks-requires-clause-machine : goal.schedule_by_blocks-requires-clause-machine
schedule_by_blocks-requires-clause-machine c = ap (λ k. k.env) c.requires.class

pub schedule_by_blocks-requires-clause-crit : goal.schedule_by_blocks-requires-clause-crit
schedule_by_blocks-requires-clause-crit c = ap (λ k. k.crit) c.requires.class

pub schedule_by_blocks-requires-clause-whole : goal.schedule_by_blocks-requires-clause-whole
schedule_by_blocks-requires-clause-whole c = inl (ap (λ k. k.cut) c.requires.class)
