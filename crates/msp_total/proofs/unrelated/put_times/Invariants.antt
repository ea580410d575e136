-- the times so far
use Rattle.std.proofs.Common.{◌≡◌, ◌++◌, map, take}
use Rattle.msp_total.proofs.unrelated.put_times.Given as goal

abbrev pub invariant-loop-need : goal.invariant-loop-need
invariant-loop-need l = l.times ≡ l.initial.times ++ map (λ n. n.time) (take l.need-index l.needs)
