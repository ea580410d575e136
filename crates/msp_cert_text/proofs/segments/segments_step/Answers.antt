-- The goals of `segments_step` that are proved by lemmas.
use Rattle.std.proofs.Common.{◌≡◌, ℕ, ◌+◌, ◌<◌, nat_lt, true, ap, sym, ◌∙◌, arith}
use Rattle.std.proofs.lemmas.Bool.{false≢true}
use Rattle.msp_cert_text.specs.declared.kinds.TheConstants.{MOST_LINES}
use Rattle.msp_cert_text.proofs.segments.segments_step.Goals as goal

below : (n most : ℕ) → nat_lt (n + 0) most ≡ true → n < most
below n most e = grind arith

pub returns-then-is_segment_word-clause-count : goal.returns-then-is_segment_word-clause-count
returns-then-is_segment_word-clause-count c = λ _.
    (c.in_ok-segment_added.ensures.count ∙ ap (λ n. n + 1) (sym c.requires.before), below c.args.before MOST_LINES (sym c.if-not-has_room.ensures))

pub returns-clause-count : goal.returns-clause-count
returns-clause-count c = λ e. absurd (false≢true e)
