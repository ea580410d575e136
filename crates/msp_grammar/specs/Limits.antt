-- The limits of texts, by their numbers.
use Rattle.std.specs.Prelude.{◌≡◌, ◌-◌, ◌^◌}
use Rattle.msp_grammar.specs.declared.limits.TheConstants.{GREATEST_COST, GREATEST_DENOMINATOR}
use Rattle.msp_grammar.specs.declared.lines.limits.TheConstants.{MOST_BYTES, LAST_LINE}

-- A numerator is at most 10^38 - 1 in size, a denominator at most 10^13, a text has at most 2^26 bytes, and the number of a schedule
-- text's or a certificate text's first line is at most 2^27.
pub record AreLimits : Type 0 where
  pub cost : GREATEST_COST ≡ 10 ^ 38 - 1
  pub denominator : GREATEST_DENOMINATOR ≡ 10 ^ 13
  pub bytes : MOST_BYTES ≡ 2 ^ 26
  pub line : LAST_LINE ≡ 2 ^ 27
