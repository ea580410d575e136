-- The goals of `read_alone` that are proved by lemmas.
use Rattle.std.proofs.Common.{◌≡◌, true, false, refl, string_bytes}
use Rattle.msp_top.proofs.WordLemmas.{frontier_word, certify_word, check_word, accept_word, rows_word, alone, none_alone}
use Rattle.msp_top.proofs.words.read_alone.Goals as goal

pub returns-then-is_alone : goal.returns-then-is_alone
returns-then-is_alone c = alone string_bytes c.args.words.now c.args.word.now frontier_word (c.if-is_alone.ensures.0 refl)

pub returns-then-is_alone-2 : goal.returns-then-is_alone-2
returns-then-is_alone-2 c = alone string_bytes c.args.words.now c.args.word.now certify_word (c.if-is_alone-2.ensures.0 refl)

pub returns-then-is_alone-3 : goal.returns-then-is_alone-3
returns-then-is_alone-3 c = alone string_bytes c.args.words.now c.args.word.now check_word (c.if-is_alone-3.ensures.0 refl)

pub returns-then-is_alone-4 : goal.returns-then-is_alone-4
returns-then-is_alone-4 c = alone string_bytes c.args.words.now c.args.word.now accept_word (c.if-is_alone-4.ensures.0 refl)

pub returns-then-is_alone-5 : goal.returns-then-is_alone-5
returns-then-is_alone-5 c = alone string_bytes c.args.words.now c.args.word.now rows_word (c.if-is_alone-5.ensures.0 refl)

pub returns : goal.returns
returns c = (
  none_alone string_bytes c.args.word.now c.args.words.now (λ h. let e : false ≡ true = c.if-is_alone.ensures.1 h in cc)
      (λ h. let e : false ≡ true = c.if-is_alone-2.ensures.1 h in cc) (λ h. let e : false ≡ true = c.if-is_alone-3.ensures.1 h in cc)
      (λ h. let e : false ≡ true = c.if-is_alone-4.ensures.1 h in cc) (λ h. let e : false ≡ true = c.if-is_alone-5.ensures.1 h in cc),
  refl,
)
