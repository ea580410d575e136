-- The goals of `keep_minimal` that are proved by lemmas.
use Rattle.std.proofs.Common.{false, ◌∙◌}
use Rattle.msp_closure.proofs.FrontierLemmas.{MinimalBelow-struck, MinimalBelow-stay, MinimalBelow-all}
use Rattle.msp_closure.proofs.frontier_lists.keep_minimal.Goals as goal
use Rattle.msp_closure.proofs.frontier_lists.keep_minimal.Goals.{then-at, else-at}

pub loop-n-preserved : goal.loop-n-preserved
loop-n-preserved c = elim c.if-at.branch [
  | then-at w ↦ rw w.left-is
      (MinimalBelow-struck c.args.set.now c.loop-n.left w.strike.new.left c.loop-n.n c.class_at-c.result c.class_at-c.ensures
      (c.at.ensures.value false ∙ w.if-at.true) w.strike.ensures c.loop-n.invariant)
  | else-at w ↦ rw w.left-is
      (MinimalBelow-stay c.args.set.now c.loop-n.left c.loop-n.n c.class_at-c.result c.class_at-c.ensures
      (c.at.ensures.value false ∙ w.if-at.false) c.loop-n.invariant)
]

pub returns : goal.returns
returns c = MinimalBelow-all c.args.set.now c.loop-n.left c.loop-n.n c.loop-n-test.false c.loop-n.invariant
