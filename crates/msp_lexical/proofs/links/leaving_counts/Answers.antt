use Rattle.std.proofs.Common.{ℕ}
use Rattle.std.proofs.lemmas.List.{length-replicate, get_or-replicate}
use Rattle.msp_class.specs.declared.sizes.TheConstants.{MOST_JOBS}
use Rattle.msp_lexical.proofs.links.leaving_counts.Goals as goal

pub loop-arc-init : goal.loop-arc-init
loop-arc-init c = record { whole = length-replicate {A = ℕ} MOST_JOBS 0; each = λ j l. get_or-replicate MOST_JOBS j 0 0 l }
