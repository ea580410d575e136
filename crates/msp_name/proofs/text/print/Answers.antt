use Rattle.msp_name.proofs.PrintLemmas.{name_of-NameOf, length-name_of}
use Rattle.msp_name.proofs.text.print.Goals as goal

pub returns-clause-named : goal.returns-clause-named
returns-clause-named c = rw c.spell.ensures (name_of-NameOf c.args.c)

pub returns-clause-longest : goal.returns-clause-longest
returns-clause-longest c = rw c.spell.ensures (length-name_of c.args.c)
