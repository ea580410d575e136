use Rattle.std.proofs.Common.{nat_abs, ◌-ℤ◌}
use Rattle.msp_route.specs.Halving.{IsRange}
use Rattle.msp_route.proofs.halving.least_in.Given as goal

-- the least bound lies in the range
abbrev pub invariant-loop-range : goal.invariant-loop-range
invariant-loop-range g l = IsRange (g.Q.Question.met l.question) (g.Q.Question.limit l.question) l.range

abbrev pub decreases-loop-range : goal.decreases-loop-range
decreases-loop-range g l = nat_abs (l.range.high -ℤ l.range.low)
