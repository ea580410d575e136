-- What the loop of `follow` keeps.
use Rattle.msp_closure.specs.Tables.{allows}
use Rattle.msp_closure.specs.Relation.{room}
use Rattle.msp_closure.proofs.ReachLemmas.{IsPassed}
use Rattle.msp_closure.proofs.reach_bits.follow.Given as goal

abbrev pub invariant-passes : goal.invariant-passes
invariant-passes l = IsPassed (allows l.rows) l.relation l.last l.fresh

abbrev pub decreases-passes : goal.decreases-passes
decreases-passes l = room l.relation
