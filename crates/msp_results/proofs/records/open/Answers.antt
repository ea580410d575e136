-- The goals of `open` that are proved by lemmas.
use Rattle.std.proofs.Common.{◌∙◌}
use Rattle.msp_results.proofs.RowLemmas.{opened}
use Rattle.msp_results.proofs.records.open.Goals as goal

pub returns-clause-reading : goal.returns-clause-reading
returns-clause-reading c =
    let e = c.flexible.ensures in
    let f = c.has_headers.ensures in
    let fr = c.from_reader.ensures in
    opened c.from_reader.result c.args.text.now (rw (e, f) at fr.config ∙ c.new.ensures.config)
    (rw (e, f) at fr.trim ∙ c.new.ensures.trim) (rw (e, f) at fr.has_headers) fr.headers fr.source c.requires
