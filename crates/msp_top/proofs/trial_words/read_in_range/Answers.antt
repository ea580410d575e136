-- The goals of `read_in_range` that are proved by lemmas.
use Rattle.std.proofs.Common.{◌∙◌, sym, ap, arith}
use Rattle.msp_top.specs.Usage.{text_of_number}
use Rattle.msp_top.proofs.TrialWords.{number_word, no_number_word, number_then-short}
use Rattle.msp_top.proofs.trial_words.read_in_range.Goals as goal

pub returns-in-Some-clause-read : goal.returns-in-Some-clause-read
returns-in-Some-clause-read c =
    number_word c.args.least c.args.greatest c.args.word.now c.as_bytes.result.now c.number_within.result c.in-Some.number (omega arith) c.as_bytes.ensures.value c.number_within.ensures c.in-Some.is

pub returns-in-Some-clause-later : goal.returns-in-Some-clause-later
returns-in-Some-clause-later c later =
    number_then-short c.args.place c.args.least c.args.greatest c.args.word.now c.as_bytes.result.now later c.number_within.result (omega arith) c.as_bytes.ensures.value c.number_within.ensures
    ∙ ap (λ o. text_of_number c.args.place c.args.least c.args.greatest o later) c.in-Some.is

pub returns-in-None-clause-read : goal.returns-in-None-clause-read
returns-in-None-clause-read c = (
  λ later. sym
      (number_then-short c.args.place c.args.least c.args.greatest c.args.word.now c.as_bytes.result.now later c.number_within.result (omega arith) c.as_bytes.ensures.value c.number_within.ensures
      ∙ ap (λ o. text_of_number c.args.place c.args.least c.args.greatest o later) c.in-None.is),
  λ number. no_number_word c.args.least c.args.greatest c.args.word.now c.as_bytes.result.now c.number_within.result c.as_bytes.ensures.value c.number_within.ensures c.in-None.is number,
)
