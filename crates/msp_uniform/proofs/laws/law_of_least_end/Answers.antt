use Rattle.msp_uniform.proofs.LeastEnd.{law_of_least_end}
use Rattle.msp_uniform.proofs.laws.law_of_least_end.Goals as goal

pub returns : goal.returns
returns c = law_of_least_end
