use Rattle.std.proofs.Common.{arith}
use Rattle.std.proofs.lemmas.Grind.{common_steps}
use Rattle.msp_instance.proofs.ArcLemmas.{CountsEntering-read}
use Rattle.msp_instance.proofs.sequence.entering_counts.Goals as goal

pub overflow_add-index_mut : goal.overflow_add-index_mut
overflow_add-index_mut c = omega (arith, (CountsEntering-read c.args.arcs.now c.loop-a.a-index _ c.args.jobs _ _ c.loop-a-test.true c.requires c.loop-a.invariant c.index_mut.ensures.value).0)

pub loop-a-preserved : goal.loop-a-preserved
loop-a-preserved c = (CountsEntering-read c.args.arcs.now c.loop-a.a-index _ c.args.jobs _ _ c.loop-a-test.true c.requires c.loop-a.invariant c.index_mut.ensures.value).1

pub loop-a-init : goal.loop-a-init
loop-a-init c = grind (arith, common_steps)

pub returns-clause-len : goal.returns-clause-len
returns-clause-len c = grind (arith, common_steps)

pub returns-clause-each : goal.returns-clause-each
returns-clause-each c = grind (arith, common_steps)
