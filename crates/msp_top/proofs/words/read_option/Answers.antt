-- The goals of `read_option` that are proved by lemmas.
use Rattle.std.proofs.Common.{◌∙◌, sym, string_bytes, Ok, Err, rules}
use Rattle.std.proofs.lemmas.Slice.Eq.{bytes_eq-Decides}
use Rattle.msp_top.proofs.Exits.{failed}
use Rattle.msp_top.proofs.WordLemmas.{reads_at_part}
use Rattle.msp_top.proofs.words.read_option.Goals as goal

pub returns-then-eq : goal.returns-then-eq
returns-then-eq c =
    reads_at_part string_bytes c.args.words.now c.index-words-0.result c.index-words-1.result _ _ (Ok c.in_ok-read_name.field-0)
    (search rules) c.index-words-0.is c.index-words-1.is c.as_str.ensures.value c.as_str-then-eq.ensures.value
    ((bytes_eq-Decides _ _).0 (sym c.eq.ensures ∙ c.if-eq.true)) c.in_ok-read_name.ensures.read

pub returns-in_err-read_name : goal.returns-in_err-read_name
returns-in_err-read_name c = rw (failed _ c.from_residual.ensures.1) (
    reads_at_part string_bytes c.args.words.now c.index-words-0.result c.index-words-1.result _ _ (Err c.in_err-read_name.field-0.0)
    (search rules) c.index-words-0.is c.index-words-1.is c.as_str.ensures.value c.as_str-then-eq.ensures.value
    ((bytes_eq-Decides _ _).0 (sym c.eq.ensures ∙ c.if-eq.true)) c.in_err-read_name.ensures.read)
