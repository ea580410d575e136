-- The goals of `every_class` that are proved by lemmas.
use Rattle.std.proofs.Common.{arith}
use Rattle.msp_class.proofs.RankLemmas.{rank_of-below}
use Rattle.msp_closure.proofs.LedLemmas.{every_more}
use Rattle.msp_closure.proofs.reached.every_class.Goals as goal

pub loop-n-preserved : goal.loop-n-preserved
loop-n-preserved c = rw c.in_ok-push.ensures.items (every_more c.loop-n.classes.items c.loop-n.n c.class_at.result c.class_at.ensures c.loop-n.invariant)

pub returns : goal.returns
returns c = λ x. c.loop-n.invariant x (omega (arith, rank_of-below x))
