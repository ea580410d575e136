use Rattle.msp_pieces.proofs.bounds.Certified.{law_of_blocks}
use Rattle.msp_pieces.proofs.laws.law_of_blocks.Goals as goal

pub returns : goal.returns
returns c = law_of_blocks
