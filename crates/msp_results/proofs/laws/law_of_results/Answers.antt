-- The goals of `law_of_results` that are proved by lemmas.
use Rattle.msp_results.proofs.ResultLemmas.{law_of_results}
use Rattle.msp_results.proofs.laws.law_of_results.Goals as goal

pub returns : goal.returns
returns c = law_of_results
