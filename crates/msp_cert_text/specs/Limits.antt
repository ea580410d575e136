-- The limits of certificate texts, by their numbers.
use Rattle.std.specs.Prelude.{◌≡◌, ◌^◌}
use Rattle.msp_cert_text.specs.declared.kinds.TheConstants.{GREATEST_BOUND, GREATEST_LEVEL, MOST_LINES}

-- The numerator of a bound is at most 10^24 in size, a level is at most 400, and a kind has at most 20,000 lines.
pub record AreLimits : Type 0 where
  pub bound : GREATEST_BOUND ≡ 10 ^ 24
  pub level : GREATEST_LEVEL ≡ 400
  pub lines : MOST_LINES ≡ 20000
