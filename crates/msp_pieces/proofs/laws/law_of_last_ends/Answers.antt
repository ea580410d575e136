use Rattle.msp_pieces.proofs.bounds.LastEnds.{law_of_last_ends}
use Rattle.msp_pieces.proofs.laws.law_of_last_ends.Goals as goal

pub returns : goal.returns
returns c = law_of_last_ends
