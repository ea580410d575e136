-- The goals of `walk` that are proved by lemmas.
use Rattle.msp_closure.specs.Tables.{allows}
use Rattle.msp_closure.proofs.NearestLemmas.{IsWalked-next, IsWalked-end}
use Rattle.msp_closure.proofs.walk.walk.Goals as goal

pub walk-preserved : goal.walk-preserved
walk-preserved c = rw (c.in_ok-put.ensures.put)
    (IsWalked-next (allows c.args.rows) c.args.table.now c.args.from c.walk.here c.in-Some.step.next c.walk.chain c.in-Some.step.row
    c.in-Some.ensures.steps c.in-Some.ensures.near c.in-Some.ensures.value c.in-Some.ensures.least c.walk.invariant)

pub returns : goal.returns
returns c = IsWalked-end (allows c.args.rows) c.args.table.now c.args.from c.walk.here c.walk.chain c.in_default.ensures.none c.walk.invariant
