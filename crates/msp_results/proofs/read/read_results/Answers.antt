-- The goals of `read_results` that are proved by lemmas.
use Rattle.std.proofs.Common.{◌∙◌, inl, inr}
use Rattle.msp_results.proofs.ResultLemmas.{IfOk-reading, results_of-ResultsOf}
use Rattle.msp_results.proofs.read.read_results.Goals as goal

pub returns-clause-ok : goal.returns-clause-ok
returns-clause-ok c = IfOk-reading c.args.bytes.now c.read_records.result c.read_records.ensures

pub returns-clause-complete : goal.returns-clause-complete
returns-clause-complete c = λ entries r. elim c.read_records.ensures [ inl h ↦ inl h | inr h ↦ inr (h ∙ results_of-ResultsOf c.args.bytes.now entries r) ]
