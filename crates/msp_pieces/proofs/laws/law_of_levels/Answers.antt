use Rattle.msp_pieces.proofs.bounds.LevelBound.{law_of_levels}
use Rattle.msp_pieces.proofs.laws.law_of_levels.Goals as goal

pub returns : goal.returns
returns c = law_of_levels
