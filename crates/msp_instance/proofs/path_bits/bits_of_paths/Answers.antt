use Rattle.std.proofs.Common.{ap, ◌∙◌}
use Rattle.msp_instance.specs.Bits.{has_bit}
use Rattle.msp_instance.proofs.BitLemmas.{no_bits}
use Rattle.msp_instance.proofs.path_bits.bits_of_paths.Goals as goal

pub fill-requires-clause-none : goal.fill-requires-clause-none
fill-requires-clause-none c = λ j k. ap (λ l. has_bit l c.args.width j k) (c.deref_mut.ensures.value ∙ c.in_ok-words.ensures.items_if_clones_equal (λ y q. q)) ∙ no_bits _ c.args.width j k
