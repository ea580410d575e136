use Rattle.std.proofs.Common.{◌<◌, length, sym, subst}
use Rattle.msp_instance.proofs.BitLemmas.{SetsBit-written}
use Rattle.msp_instance.proofs.path_bits.set_bit.Goals as goal

pub returns : goal.returns
returns c = SetsBit-written c.args.words.now c.args.width c.args.from c.args.to c.place.result c.place.ensures
    (subst (λ n. n < length c.args.words.now) (sym c.place.ensures) c.requires.inside) c.requires.wide
