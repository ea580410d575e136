use Rattle.std.proofs.Common.{refl}
use Rattle.msp_weighted.proofs.BitFacts.{read_bit}
use Rattle.msp_weighted.proofs.bits.is_set.Goals as goal

pub returns : goal.returns
returns c = read_bit c.args.words.now c.args.number _ refl
