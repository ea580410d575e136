use Rattle.msp_pieces.proofs.bounds.SegmentBound.{law_of_segments}
use Rattle.msp_pieces.proofs.laws.law_of_segments.Goals as goal

pub returns : goal.returns
returns c = law_of_segments
