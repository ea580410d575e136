use Rattle.std.proofs.lemmas.List.{get_or-replicate}
use Rattle.msp_class.specs.declared.sizes.TheConstants.{MOST_MACHINES}
use Rattle.msp_total.proofs.lay.no_times.Goals as goal

pub returns : goal.returns
returns c m h = get_or-replicate MOST_MACHINES m 0 0 h
