use Rattle.msp_instance.proofs.JoinLemmas.{places_apart, Follows-from}
use Rattle.msp_instance.proofs.path_bits.follow.Goals as goal

pub join_words-requires-clause-apart : goal.join_words-requires-clause-apart
join_words-requires-clause-apart c = places_apart c.args.width c.args.arc c.place-to.result c.place-from.result c.place-to.ensures c.place-from.ensures c.requires.apart

pub returns : goal.returns
returns c = Follows-from c.args.width c.args.arc c.place-to.result c.place-from.result
    c.args.words.now c.join_words.new.words c.set_bit.new.words c.place-to.ensures c.place-from.ensures c.join_words.ensures c.set_bit.ensures
