-- The goals of `read_one_name` that are proved by lemmas.
use Rattle.std.proofs.Common.{string_bytes, rules}
use Rattle.msp_top.proofs.WordLemmas.{reads_one}
use Rattle.msp_top.proofs.words.read_one_name.Goals as goal

pub returns-then-words-eq1 : goal.returns-then-words-eq1
returns-then-words-eq1 c = reads_one string_bytes c.args.words.now c.index-words-0.result _ c.read_name.result (search rules) c.index-words-0.is c.as_str.ensures.value c.read_name.ensures.read
