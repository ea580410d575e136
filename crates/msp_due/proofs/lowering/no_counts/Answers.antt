use Rattle.msp_due.proofs.LoweredSlots.{no_count}
use Rattle.msp_due.proofs.lowering.no_counts.Goals as goal

pub returns : goal.returns
returns c k = no_count k
