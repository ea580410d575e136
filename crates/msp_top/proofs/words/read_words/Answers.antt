-- The goals of `read_words` that are proved by lemmas.
use Rattle.std.proofs.Common.{string_bytes, rules}
use Rattle.msp_top.proofs.WordLemmas.{reads_part, rest_part}
use Rattle.msp_top.proofs.words.read_words.Goals as goal

pub returns : goal.returns
returns c = reads_part string_bytes c.args.words.now.items _ c.index.result.now _ _ (search rules) c.index.ensures c.as_str.ensures.value (rest_part _ _ c.deref.ensures.value) c.read_after.ensures
