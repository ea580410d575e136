-- What the loop of `marked` keeps.
use Rattle.std.proofs.Common.{◌≡◌, ◌<◌, length, get_or}
use Rattle.msp_class.specs.declared.class.Class.{Class}
use Rattle.msp_class.specs.declared.ranks.TheConstants.{CLASSES}
use Rattle.msp_class.specs.Rank.{rank_of}
use Rattle.msp_closure.specs.declared.entry.Mark.{Mark}
use Rattle.msp_closure.specs.Tables.{is_flagged}
use Rattle.msp_closure.specs.Entries.{mark_of}
use Rattle.msp_closure.proofs.labels.marked.Given as goal

abbrev pub invariant-loop-n : goal.invariant-loop-n
invariant-loop-n l =
    (length l.table ≡ CLASSES)
    × ((c : Class) (d : Mark) → rank_of c < l.n → get_or l.table (rank_of c) d ≡ mark_of (is_flagged l.to_easy c) (is_flagged l.to_pseudo c) (is_flagged l.from_hard c) (is_flagged l.from_strong c))
