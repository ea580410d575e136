use Rattle.std.proofs.Common.{ℕ}
use Rattle.std.proofs.lemmas.List.{length-replicate, get_or-replicate}
use Rattle.msp_class.specs.declared.sizes.TheConstants.{MOST_JOBS}
use Rattle.msp_lexical.proofs.label.no_labels.Goals as goal

pub returns-clause-whole : goal.returns-clause-whole
returns-clause-whole c = length-replicate {A = ℕ} MOST_JOBS MOST_JOBS

pub returns-clause-none : goal.returns-clause-none
returns-clause-none c j h = get_or-replicate MOST_JOBS j MOST_JOBS 0 h
