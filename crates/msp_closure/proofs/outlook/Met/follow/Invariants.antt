-- What the loop of `follow` keeps.
use Rattle.msp_closure.specs.Links.{AddsLinks}
use Rattle.msp_closure.specs.Outlook.{Steps, Grows, IsFollowed}
use Rattle.msp_closure.specs.Tables.{allows}
use Rattle.msp_closure.proofs.outlook.Met.follow.Given as goal

abbrev pub invariant-loop-k : goal.invariant-loop-k
invariant-loop-k l =
    Grows (Steps (allows l.rows) l.class) l.fn.self.classes.items l.fn.self.flags l.self.classes.items l.self.flags
    × IsFollowed (allows l.rows) l.class l.k l.self.flags
    × AddsLinks (allows l.rows) l.fn.self.links.items l.self.links.items l.class l.k
