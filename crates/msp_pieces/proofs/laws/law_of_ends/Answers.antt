use Rattle.msp_pieces.proofs.bounds.EndsAndFloors.{law_of_ends}
use Rattle.msp_pieces.proofs.laws.law_of_ends.Goals as goal

pub returns : goal.returns
returns c = law_of_ends
