use Rattle.msp_instance.proofs.Limits.{Inner-from_class}
use Rattle.msp_instance.proofs.laws.law_of_inner.Goals as goal

pub returns : goal.returns
returns c = Inner-from_class
