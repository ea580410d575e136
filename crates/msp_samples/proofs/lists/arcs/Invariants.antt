-- The arcs of the pairs so far.
use Rattle.std.proofs.Common.{◌≡◌, take, map}
use Rattle.msp_samples.specs.Samples.{arc_of}
use Rattle.msp_samples.proofs.lists.arcs.Given as goal

abbrev pub invariant-loop-pair : goal.invariant-loop-pair
invariant-loop-pair l = l.arcs ≡ map arc_of (take l.pair-index l.pairs)
