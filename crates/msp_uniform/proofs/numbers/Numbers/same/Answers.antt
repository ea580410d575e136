use Rattle.std.proofs.lemmas.List.{take-replicate}
use Rattle.msp_class.specs.declared.sizes.TheConstants.{MOST_MACHINES}
use Rattle.msp_uniform.proofs.numbers.Numbers.same.Goals as goal

pub returns : goal.returns
returns c = take-replicate c.args.count MOST_MACHINES c.args.number c.requires
