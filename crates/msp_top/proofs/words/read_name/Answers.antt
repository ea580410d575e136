-- The goals of `read_name` that are proved by lemmas.
use Rattle.std.proofs.Common.{arith}
use Rattle.msp_top.proofs.NameWords.{name_then-fault, no_name_word}
use Rattle.msp_top.proofs.words.read_name.Goals as goal

pub returns-in-Err-clause-read : goal.returns-in-Err-clause-read
returns-in-Err-clause-read c = (
  λ later. name_then-fault c.args.place c.args.word.now c.as_bytes.result.now later c.parse.result c.in-Err.fault (omega arith) c.as_bytes.ensures.value c.parse.ensures.reading c.in-Err.is,
  λ class. no_name_word c.args.word.now c.as_bytes.result.now c.parse.result c.in-Err.fault c.as_bytes.ensures.value c.in-Err.is c.parse.ensures.ok class,
)
