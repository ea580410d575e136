-- The goals of `keep_maximal` that are proved by lemmas.
use Rattle.msp_closure.proofs.FrontierLemmas.{MaximalBelow-off, MaximalBelow-stay, MaximalBelow-all}
use Rattle.msp_closure.proofs.frontier_lists.keep_maximal.Goals as goal
use Rattle.msp_closure.proofs.frontier_lists.keep_maximal.Goals.{then-is_beaten, else-is_beaten}

pub loop-n-preserved : goal.loop-n-preserved
loop-n-preserved c = elim c.if-is_beaten.branch [
  | then-is_beaten w ↦ rw (w.left-is, w.set.ensures.written)
      (MaximalBelow-off c.args.set.now c.loop-n.left c.loop-n.n c.class_at-c.result c.class_at-c.ensures w.set.ensures.len
      (c.is_beaten.ensures.beaten w.if-is_beaten.true) c.loop-n.invariant)
  | else-is_beaten w ↦ rw w.left-is
      (MaximalBelow-stay c.args.set.now c.loop-n.left c.loop-n.n c.class_at-c.result c.class_at-c.ensures
      (c.is_beaten.ensures.not_beaten w.if-is_beaten.false) c.loop-n.invariant)
]

pub returns : goal.returns
returns c = MaximalBelow-all c.args.set.now c.loop-n.left c.loop-n.n c.loop-n-test.false c.loop-n.invariant
