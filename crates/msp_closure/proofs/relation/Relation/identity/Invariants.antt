-- What the loop of `identity` keeps.
use Rattle.std.proofs.Common.{◌≡◌, ◌<◌, ◌*◌, true, length}
use Rattle.msp_class.specs.declared.class.Class.{Class}
use Rattle.msp_class.specs.declared.ranks.TheConstants.{CLASSES}
use Rattle.msp_class.specs.Rank.{rank_of}
use Rattle.msp_closure.specs.declared.relation.TheConstants.{WIDTH}
use Rattle.msp_closure.specs.Relation.{relates}
use Rattle.msp_closure.proofs.relation.Relation.identity.Given as goal

abbrev pub invariant-loop-n : goal.invariant-loop-n
invariant-loop-n l =
    (length l.words.items ≡ CLASSES * WIDTH)
    × ((a b : Class) → relates l.words.items a b ≡ true → a ≡ b)
    × ((a : Class) → rank_of a < l.n → relates l.words.items a a ≡ true)
