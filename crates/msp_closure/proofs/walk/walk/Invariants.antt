-- What the loop of `walk` keeps.
use Rattle.msp_closure.specs.Tables.{allows, value_of}
use Rattle.msp_closure.proofs.NearestLemmas.{IsWalked}
use Rattle.msp_closure.proofs.walk.walk.Given as goal

abbrev pub invariant-walk : goal.invariant-walk
invariant-walk l = IsWalked (allows l.rows) l.table l.fn.from l.here l.chain

abbrev pub decreases-walk : goal.decreases-walk
decreases-walk l = value_of l.table l.here
