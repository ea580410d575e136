-- The goals of `read_trial` that are proved by lemmas.
use Rattle.std.proofs.Common.{string_bytes, rules}
use Rattle.msp_top.proofs.TrialWords.{reads_three}
use Rattle.msp_top.proofs.trial_words.read_trial.Goals as goal

pub returns-then-words-eq3 : goal.returns-then-words-eq3
returns-then-words-eq3 c = reads_three string_bytes c.args.words.now c.index-words-0.result c.index-words-1.result c.index-words-2.result _ _ _ c.read_three.result
    (search rules) c.index-words-0.is c.index-words-1.is c.index-words-2.is
    c.as_str.ensures.value c.as_str-then-words-eq3.ensures.value c.as_str-then-words-eq3-2.ensures.value c.read_three.ensures
