use Rattle.std.proofs.Common.{pos}
use Rattle.std.proofs.lemmas.List.{get_or-replicate}
use Rattle.msp_class.specs.declared.sizes.TheConstants.{MOST_JOBS}
use Rattle.msp_pieces.proofs.total_cost.no_ends.Goals as goal

pub returns : goal.returns
returns c j h = get_or-replicate MOST_JOBS j (pos 0) (pos 0) h
