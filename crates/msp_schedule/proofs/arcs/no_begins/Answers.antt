use Rattle.std.proofs.Common.{pos}
use Rattle.std.proofs.lemmas.List.{get_or-replicate}
use Rattle.msp_class.specs.declared.sizes.TheConstants.{MOST_JOBS}
use Rattle.msp_pieces.specs.declared.limits.TheConstants.{GREATEST_MOMENT}
use Rattle.msp_schedule.proofs.arcs.no_begins.Goals as goal

pub returns : goal.returns
returns c j h = get_or-replicate MOST_JOBS j GREATEST_MOMENT (pos 0) h
