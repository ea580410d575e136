-- What the loop of `with_standing` keeps.
use Rattle.std.proofs.Common.{◌≡◌, ◌<◌, length}
use Rattle.msp_class.specs.declared.class.Class.{Class}
use Rattle.msp_class.specs.declared.ranks.TheConstants.{CLASSES}
use Rattle.msp_class.specs.Rank.{rank_of}
use Rattle.msp_closure.specs.Tables.{is_flagged}
use Rattle.msp_closure.specs.Frontier.{mark_at}
use Rattle.msp_closure.specs.Standing.{has_standing}
use Rattle.msp_closure.proofs.frontier_lists.with_standing.Given as goal

abbrev pub invariant-loop-n : goal.invariant-loop-n
invariant-loop-n l =
    (length l.table ≡ CLASSES)
    × ((c : Class) → rank_of c < l.n → is_flagged l.table c ≡ has_standing l.standing (mark_at l.labels c))
