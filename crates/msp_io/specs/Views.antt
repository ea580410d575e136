-- What contracts see of a device at one moment.
use Rattle.std.specs.Prelude.{ℕ, List, Option}

pub record SourceView : Type 0 where
  -- the bytes still to come, where the source tells them
  pub left : Option (List ℕ)
  -- how many bytes the source has given, where it counts them; the count stays at 2 ^ 64 - 1 once it is there
  pub given : Option ℕ
  -- how often the source has failed; the count stays at 2 ^ 64 - 1 once it is there
  pub faults : ℕ

pub record SinkView : Type 0 where
  -- the bytes taken so far, where the sink tells them
  pub held : Option (List ℕ)
  -- how many bytes the sink has taken, where it counts them; the count stays at 2 ^ 64 - 1 once it is there
  pub taken : Option ℕ
  -- how often the sink has failed; the count stays at 2 ^ 64 - 1 once it is there
  pub faults : ℕ
