-- What the loop of `distances` keeps.
use Rattle.std.proofs.Common.{◌+◌, ◌≤◌}
use Rattle.msp_class.specs.declared.ranks.TheConstants.{CLASSES}
use Rattle.msp_closure.specs.Tables.{allows}
use Rattle.msp_closure.specs.Walk.{far_count}
use Rattle.msp_closure.proofs.AdvanceLemmas.{IsLevel}
use Rattle.msp_closure.proofs.distances.distances.Given as goal

abbrev pub invariant-passes : goal.invariant-passes
invariant-passes l =
    IsLevel (allows l.outlook.rows) l.outlook.starts.items l.wanted l.table l.level × (l.level + far_count l.table ≤ CLASSES)

abbrev pub decreases-passes : goal.decreases-passes
decreases-passes l = far_count l.table
