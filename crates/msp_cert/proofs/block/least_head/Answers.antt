use Rattle.std.proofs.Common.{arith}
use Rattle.msp_cert.proofs.BlockFacts.{first_head, next_head, head_reached, head_low}
use Rattle.msp_cert.proofs.block.least_head.Goals as goal

pub loop-k-init : goal.loop-k-init
loop-k-init c = first_head c.args.head.now c.args.jobs.now _ c.head_of-least.ensures

pub loop-k-preserved : goal.loop-k-preserved
loop-k-preserved c = next_head c.args.head.now c.args.jobs.now c.loop-k.k c.loop-k.least _ _ c.head_of.ensures c.lower-least.ensures.one c.lower-least.ensures.low c.loop-k.invariant

pub returns-clause-first : goal.returns-clause-first
returns-clause-first c = head_reached c.args.head.now c.args.jobs.now c.loop-k.k c.loop-k.least c.loop-k.invariant (omega arith)

pub returns-clause-after : goal.returns-clause-after
returns-clause-after c = head_low c.args.head.now c.args.jobs.now c.loop-k.k c.loop-k.least c.loop-k.invariant (omega arith)
