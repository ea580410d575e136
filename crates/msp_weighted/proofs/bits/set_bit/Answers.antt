use Rattle.msp_weighted.proofs.BitFacts.{set_itself, set_others}
use Rattle.msp_weighted.proofs.bits.set_bit.Goals as goal

pub returns-clause-set : goal.returns-clause-set
returns-clause-set c = set_itself c.args.words.now c.args.number c.requires

pub returns-clause-others : goal.returns-clause-others
returns-clause-others c = set_others c.args.words.now c.args.number c.requires
