-- What the loop of `pass` keeps.
use Rattle.msp_closure.specs.Tables.{allows}
use Rattle.msp_closure.proofs.ReachLemmas.{Passed}
use Rattle.msp_closure.proofs.reach_bits.pass.Given as goal

abbrev pub invariant-loop-n : goal.invariant-loop-n
invariant-loop-n l = Passed (allows l.rows) l.fn.relation l.relation l.last l.fresh l.changed l.n
