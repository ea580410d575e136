use Rattle.msp_pieces.proofs.bounds.Loads.{law_of_lines}
use Rattle.msp_pieces.proofs.laws.law_of_lines.Goals as goal

pub returns : goal.returns
returns c = law_of_lines
