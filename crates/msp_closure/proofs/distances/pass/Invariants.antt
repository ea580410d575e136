-- What the loop of `pass` keeps.
use Rattle.std.proofs.Common.{ℕ, Bool, List}
use Rattle.msp_class.specs.declared.class.Class.{Class}
use Rattle.msp_closure.specs.Links.{AreLinks}
use Rattle.msp_closure.proofs.AdvanceLemmas.{Passes}
use Rattle.msp_closure.proofs.distances.pass.Given as goal

abbrev pub invariant-loop-link : goal.invariant-loop-link
invariant-loop-link l = (usable : ℕ → Bool) (starts : List Class) → AreLinks usable starts l.links → Passes usable l.links l.fn.table l.table l.level l.changed l.link-index
