-- The job that ends last of the jobs left.
use Rattle.std.specs.Prelude.{◌≡◌, ℕ, ◌≤◌, ◌⊎◌, List, ◌<ℤ◌, All}
use Rattle.msp_instance.specs.declared.Instance.{Instance}
use Rattle.msp_pieces.specs.Blocks.{cost_at, HasNoSuccessor}

-- Job a costs less than job b at the moment, or as much and has no greater number.
abbrev pub CostsLess : Instance → ℕ → ℕ → ℕ → Type 0
CostsLess i moment a b = (cost_at i a moment <ℤ cost_at i b moment) ⊎ ((cost_at i a moment ≡ cost_at i b moment) × (a ≤ b))

-- Of the jobs, the one that ends last at the moment: of those without a successor among them it costs least there, ties to the lesser
-- number.
pub record EndsAt (i : Instance) (moment : ℕ) (jobs : List ℕ) (last : ℕ) : Type 0 where
  pub free : HasNoSuccessor i jobs last
  pub least : All (λ j. HasNoSuccessor i jobs j → CostsLess i moment last j) jobs
