-- What is kept while proofs are tried. No public contract cites this file.
use Rattle.std.specs.Prelude.{◌≡◌, ℕ, ◌<◌, Option, Some, None}
use Rattle.msp_class.specs.declared.class.Crit.TheVariants.{Cmax}
use Rattle.msp_class.specs.Env.{kind_of}
use Rattle.msp_instance.specs.declared.Instance.{Instance}
use Rattle.msp_pieces.specs.Speeds.{HaveSpeeds}

-- The first number below the count that has a property: none exactly where none has it.
abbrev pub IsFirstBelow : (ℕ → Type 0) → ℕ → Option ℕ → Type 0
IsFirstBelow P count None = (k : ℕ) → k < count → ¬ P k
IsFirstBelow P count (Some n) = (n < count) × P n × ((k : ℕ) → k < n → ¬ P k)

-- The makespan on related machines is asked for: one machine, identical or uniform ones.
pub record HasRelatedMachines (i : Instance) : Type 0 where
  pub makespan : i.class.crit ≡ Cmax
  pub speeds : HaveSpeeds (kind_of i.class.env)
