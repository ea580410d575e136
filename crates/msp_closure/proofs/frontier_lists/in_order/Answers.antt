-- The goals of `in_order` that are proved by lemmas.
use Rattle.std.proofs.Common.{false, ◌∙◌}
use Rattle.msp_closure.proofs.FrontierLemmas.{ListedBelow-more, ListedBelow-same, ListsInOrder-from}
use Rattle.msp_closure.proofs.frontier_lists.in_order.Goals as goal
use Rattle.msp_closure.proofs.frontier_lists.in_order.Goals.{then-at+in_ok-put, else-at}

pub loop-n-preserved : goal.loop-n-preserved
loop-n-preserved c = elim c.if-at.branch [
  | then-at+in_ok-put w ↦ rw (w.classes-is, w.in_ok-put.ensures.put)
      (ListedBelow-more c.args.table.now c.loop-n.classes c.loop-n.n c.class_at-c.result c.class_at-c.ensures
      (c.at.ensures.value false ∙ w.if-at.true) c.loop-n.invariant)
  | else-at w ↦ rw w.classes-is
      (ListedBelow-same c.args.table.now c.loop-n.classes c.loop-n.n c.class_at-c.result c.class_at-c.ensures
      (c.at.ensures.value false ∙ w.if-at.false) c.loop-n.invariant)
]

pub returns : goal.returns
returns c = ListsInOrder-from c.args.table.now c.loop-n.classes c.loop-n.n c.loop-n-test.false c.loop-n.invariant
