-- A range of bounds that is halved, to find the least one that is met.
use Rattle.std.specs.Prelude.{ℕ, ◌^◌, ◌<◌, ℤ, ◌-ℤ◌, ◌≤ℤ◌, nat_abs}
use Rattle.msp_instance.specs.Conditions.{LiesWithin}
use Rattle.msp_route.specs.declared.halving.Range.{Range}

-- No bound is greater in size than this: at least what a job costs at most, and so small that two of them fit 128 bits.
abbrev pub greatest_limit : ℕ
greatest_limit = 10 ^ 36

-- The bound is the least that is met.
pub record IsLeastBound (Met : ℤ → Type 0) (bound : ℤ) : Type 0 where
  pub met : Met bound
  pub least : (other : ℤ) → Met other → bound ≤ℤ other

-- The greater bound is met, and none below the lesser; both are within the limit.
pub record IsRange (Met : ℤ → Type 0) (limit : ℕ) (range : Range) : Type 0 where
  pub met : Met range.high
  pub least : (bound : ℤ) → Met bound → range.low ≤ℤ bound
  pub low : LiesWithin limit range.low
  pub high : LiesWithin limit range.high

-- It has fewer bounds than the other.
abbrev pub IsShorter : Range → Range → Type 0
IsShorter range shorter = nat_abs (shorter.high -ℤ shorter.low) < nat_abs (range.high -ℤ range.low)
