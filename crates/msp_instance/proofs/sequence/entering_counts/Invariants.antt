use Rattle.std.proofs.Common.{take}
use Rattle.msp_instance.proofs.ArcLemmas.{CountsEntering}
use Rattle.msp_instance.proofs.sequence.entering_counts.Given as goal

abbrev pub invariant-loop-a : goal.invariant-loop-a
invariant-loop-a l = CountsEntering (take l.a-index l.arcs) l.jobs l.counts.items
