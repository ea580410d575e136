use Rattle.msp_uniform.proofs.TapedFacts.{reached_next, IsReached-loop, IsReached-stop, AreShort-stop, IsReached-all, AreShort-all}
use Rattle.msp_uniform.proofs.turns.take_turns.Goals as goal

pub turn_next-requires-clause-reached : goal.turn_next-requires-clause-reached
turn_next-requires-clause-reached c = reached_next _ _ _ _ _ _ _ c.loop-k-test.true c.loop-k.invariant

pub returns-then-not-turned-clause-reached : goal.returns-then-not-turned-clause-reached
returns-then-not-turned-clause-reached c = IsReached-stop _ _ _ _ _ _ _ _ _ _ _ c.loop-k-test.true c.if-not-turned.true c.in_ok-turned.ensures c.loop-k.invariant

pub returns-then-not-turned-clause-short : goal.returns-then-not-turned-clause-short
returns-then-not-turned-clause-short c = AreShort-stop _ _ _ _ _ _ _ _ _ _ _ c.loop-k-test.true c.if-not-turned.true c.in_ok-turned.ensures c.loop-k.invariant

pub loop-k-preserved : goal.loop-k-preserved
loop-k-preserved c = IsReached-loop _ _ _ _ _ _ _ _ _ _ _ c.loop-k-test.true c.if-not-turned.false c.in_ok-turned.ensures c.loop-k.invariant

pub returns-clause-reached : goal.returns-clause-reached
returns-clause-reached c = IsReached-all _ _ _ _ _ _ c.loop-k-test.false c.loop-k.invariant

pub returns-clause-short : goal.returns-clause-short
returns-clause-short c = AreShort-all c.args.task.now c.args.jobs.now c.loop-k.plan.unit c.loop-k.plan.places c.loop-k.plan.segments.items
