use Rattle.msp_pieces.proofs.bounds.Loads.{law_of_machines}
use Rattle.msp_pieces.proofs.laws.law_of_machines.Goals as goal

pub returns : goal.returns
returns c = law_of_machines
