use Rattle.msp_instance.proofs.JoinLemmas.{JoinedTo}
use Rattle.msp_instance.proofs.path_bits.join_words.Given as goal

abbrev pub invariant-loop-k : goal.invariant-loop-k
invariant-loop-k l = JoinedTo l.to l.from l.k l.fn.words l.words
