use Rattle.msp_instance.proofs.PathBitLemmas.{IsFilling}
use Rattle.msp_instance.proofs.path_bits.fill.Given as goal

abbrev pub invariant-loop-done : goal.invariant-loop-done
invariant-loop-done l = IsFilling l.order l.sorted l.width l.words l.done
