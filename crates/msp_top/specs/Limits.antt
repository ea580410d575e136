-- The most bytes of an input, those of an instance text with another text after it, and the greatest seed of a trial, by their numbers.
use Rattle.std.specs.Prelude.{◌≡◌}
use Rattle.msp_top.specs.declared.answers.TheConstants.{INPUT_LIMIT, CHECK_LIMIT}
use Rattle.msp_top.specs.declared.command.TheConstants.{GREATEST_SEED}

pub record AreLimits : Type 0 where
  pub input : INPUT_LIMIT ≡ 4194304
  pub check : CHECK_LIMIT ≡ 67108864
  pub seed : GREATEST_SEED ≡ 2147483647
