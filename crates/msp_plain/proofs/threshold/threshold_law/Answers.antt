-- The law, by its lemma.
use Rattle.msp_plain.specs.laws.Raised.{threshold}
use Rattle.msp_plain.proofs.threshold.threshold_law.Goals as goal

pub returns : goal.returns
returns c = threshold
