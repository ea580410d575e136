use Rattle.msp_pieces.proofs.bounds.EndsAndFloors.{law_of_floors}
use Rattle.msp_pieces.proofs.laws.law_of_floors.Goals as goal

pub returns : goal.returns
returns c = law_of_floors
