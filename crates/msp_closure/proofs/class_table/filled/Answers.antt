-- The goals of `filled` that are proved by lemmas.
use Rattle.msp_closure.proofs.TableLemmas.{copies_more}
use Rattle.msp_closure.proofs.class_table.filled.Goals as goal

pub loop-k-preserved : goal.loop-k-preserved
loop-k-preserved g c = copies_more c.loop-k.values.items _ c.loop-k._k c.args.value c.in_ok-push.ensures.items c.loop-k.invariant
