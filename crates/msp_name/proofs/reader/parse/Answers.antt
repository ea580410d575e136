use Rattle.std.proofs.Common.{sym, ◌∙◌}
use Rattle.msp_name.proofs.NameLemmas.{NameOf-from_reading, reading_of-NameOf}
use Rattle.msp_name.proofs.reader.parse.Goals as goal

pub returns-clause-ok : goal.returns-clause-ok
returns-clause-ok c = λ d. (λ h. NameOf-from_reading c.args.bytes.now d (sym c.read_name.ensures ∙ h), λ n. c.read_name.ensures ∙ reading_of-NameOf c.args.bytes.now d n)
