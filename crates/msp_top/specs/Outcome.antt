-- What there is to say of an input.
use Rattle.std.specs.Prelude.{ℕ, List}

pub data Outcome : Type 0 where
  report : (status : ℕ) (text : List ℕ) → Outcome
  -- with the text of its note
  refusal : (status : ℕ) (note : List ℕ) → Outcome
