-- What the loop of `walk` keeps.
use Rattle.std.proofs.Common.{◌+◌, ◌-◌, ◌≤◌, length}
use Rattle.msp_closure.specs.Outlook.{IsWalk, unset}
use Rattle.msp_closure.specs.Tables.{allows}
use Rattle.msp_closure.proofs.outlook.Outlook.walk.Given as goal

abbrev pub invariant-walk : goal.invariant-walk
invariant-walk l =
    IsWalk (allows l.rows) l.starts.items l.met.classes.items l.met.flags l.met.links.items l.done × (l.done ≤ length l.met.classes.items)

abbrev pub decreases-walk : goal.decreases-walk
decreases-walk l = unset l.met.flags + unset l.met.flags + (length l.met.classes.items - l.done)
