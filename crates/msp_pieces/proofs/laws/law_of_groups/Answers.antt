use Rattle.msp_pieces.proofs.bounds.Groups.{law_of_groups}
use Rattle.msp_pieces.proofs.laws.law_of_groups.Goals as goal

pub returns : goal.returns
returns c = law_of_groups
