use Rattle.std.proofs.lemmas.List.{get_or-replicate}
use Rattle.msp_class.specs.declared.sizes.TheConstants.{MOST_JOBS}
use Rattle.msp_cert.proofs.search.none_at.Goals as goal

pub returns : goal.returns
returns c t h = get_or-replicate MOST_JOBS t 0 0 h
