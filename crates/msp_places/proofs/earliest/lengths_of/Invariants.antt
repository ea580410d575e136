-- the lengths so far
use Rattle.std.proofs.Common.{◌≡◌, ◌*◌, ◌/◌, map, take}
use Rattle.msp_places.proofs.earliest.lengths_of.Given as goal

abbrev pub invariant-loop-speed : goal.invariant-loop-speed
invariant-loop-speed l = l.lengths.items ≡ map (λ s. l.fn.time * (l.fn.unit / s)) (take l.speed-index l.speeds)
