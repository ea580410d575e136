-- The goals of `near` that are proved by lemmas.
use Rattle.std.proofs.Common.{false, length-set, arith}
use Rattle.std.specs.Prelude.{nat_lt}
use Rattle.msp_class.specs.declared.class.Class.{Class}
use Rattle.msp_class.proofs.RankLemmas.{rank_of-below}
use Rattle.msp_closure.specs.declared.distances.TheConstants.{FAR}
use Rattle.msp_closure.specs.Tables.{value_of}
use Rattle.msp_closure.proofs.TableLemmas.{value_next}
use Rattle.msp_closure.proofs.reached.near.Goals as goal

pub loop-n-preserved : goal.loop-n-preserved
loop-n-preserved c = rw c.set.ensures.written (
  rw length-set c.loop-n.invariant.0,
  value_next (λ (x : Class). nat_lt (value_of c.args.distances.now x) FAR) c.loop-n.table c.loop-n.n c.class_at-c.result c.is_near.result false
      c.loop-n.invariant.0 c.class_at-c.ensures c.is_near.ensures c.loop-n.invariant.1,
)

pub returns : goal.returns
returns c = λ x. c.loop-n.invariant.1 x (omega (arith, rank_of-below x))
