use Rattle.std.proofs.Common.{false}
use Rattle.std.proofs.lemmas.List.{get_or-replicate}
use Rattle.msp_class.specs.declared.sizes.TheConstants.{MOST_JOBS}
use Rattle.msp_pieces.proofs.job_flags.no_flags.Goals as goal

pub returns : goal.returns
returns c j h = get_or-replicate MOST_JOBS j false false h
