-- What the loop of `near` keeps.
use Rattle.std.proofs.Common.{◌≡◌, ◌<◌, length}
use Rattle.std.specs.Prelude.{nat_lt}
use Rattle.msp_class.specs.declared.class.Class.{Class}
use Rattle.msp_class.specs.declared.ranks.TheConstants.{CLASSES}
use Rattle.msp_class.specs.Rank.{rank_of}
use Rattle.msp_closure.specs.declared.distances.TheConstants.{FAR}
use Rattle.msp_closure.specs.Tables.{is_flagged, value_of}
use Rattle.msp_closure.proofs.reached.near.Given as goal

abbrev pub invariant-loop-n : goal.invariant-loop-n
invariant-loop-n l =
    (length l.table ≡ CLASSES) × ((c : Class) → rank_of c < l.n → is_flagged l.table c ≡ nat_lt (value_of l.distances c) FAR)
