use Rattle.msp_pieces.proofs.bounds.SpeedBound.{law_of_speeds}
use Rattle.msp_pieces.proofs.laws.law_of_speeds.Goals as goal

pub returns : goal.returns
returns c = law_of_speeds
