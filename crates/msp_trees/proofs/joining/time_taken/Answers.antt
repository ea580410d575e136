-- What is no job takes no time.
use Rattle.std.proofs.Common.{sym, ap, ◌∙◌, arith}
use Rattle.std.proofs.lemmas.Grind.{elements}
use Rattle.std.specs.Option.{option_copied}
use Rattle.msp_trees.proofs.Picks.{time_past}
use Rattle.msp_trees.proofs.joining.time_taken.Goals as goal

pub returns-in-None-clause-value : goal.returns-in-None-clause-value
returns-in-None-clause-value c = time_past c.args.inst.now c.args.job (sym c.get.ensures ∙ ap option_copied c.in-None.is)

pub returns-in-Some-clause-value : goal.returns-in-Some-clause-value
returns-in-Some-clause-value c = grind (arith, elements) steps 2000000
