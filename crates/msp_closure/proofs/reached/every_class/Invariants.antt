-- What the loop of `every_class` keeps.
use Rattle.std.proofs.Common.{◌<◌}
use Rattle.std.specs.Prelude.{Contains}
use Rattle.msp_class.specs.declared.class.Class.{Class}
use Rattle.msp_class.specs.Rank.{rank_of}
use Rattle.msp_closure.proofs.reached.every_class.Given as goal

abbrev pub invariant-loop-n : goal.invariant-loop-n
invariant-loop-n l = (c : Class) → rank_of c < l.n → Contains l.classes.items c
