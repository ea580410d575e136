-- What the loop of `join_class` keeps.
use Rattle.msp_closure.specs.Tables.{allows}
use Rattle.msp_closure.specs.Relation.{GrowsAt, Rises}
use Rattle.msp_closure.proofs.ReachLemmas.{IncludesBefore}
use Rattle.msp_closure.proofs.reach_bits.join_class.Given as goal

abbrev pub invariant-loop-k : goal.invariant-loop-k
invariant-loop-k l =
    GrowsAt (allows l.rows) l.fn.relation l.relation l.c
    × Rises l.fn.relation l.relation l.changed
    × IncludesBefore (allows l.rows) l.last l.relation l.c l.k
