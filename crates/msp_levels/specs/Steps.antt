-- What the steps of the rule keep. No public contract cites this file.
use Rattle.std.specs.Prelude.{◌≡◌, ℕ, ◌+◌, ◌*◌, ◌<◌, ◌≤◌, ◌⊎◌, cond, leb, sum_by, pos, List, All, Contains}
use Rattle.msp_instance.specs.declared.Arc.{Arc}
use Rattle.msp_instance.specs.declared.Instance.{Instance}
use Rattle.msp_pieces.specs.declared.Piece.{Piece}
use Rattle.msp_levels.specs.Levels.{IsLevelSchedule}

-- The number is one more than the greatest level of a job to which one of the arcs leads from this one, and 0 where none does.
pub record IsOver (arcs : List Arc) (level : ℕ → ℕ) (job result : ℕ) : Type 0 where
  pub reached : (result ≡ 0) ⊎ ((a : Arc) × Contains arcs a × (a.before ≡ job) × (result ≡ level a.after + 1))
  pub above : All (λ a. a.before ≡ job → level a.after < result) arcs

-- How many jobs of the list have at least the level, and that they fit so many slots: those of at least a job's level all but the last
-- slots, as many as the level says.
abbrev pub level_from : (ℕ → ℕ) → ℕ → List ℕ → ℕ
level_from level t xs = sum_by (λ j. cond (leb t (level j)) 1 0) xs

abbrev pub Fits : ℕ → (ℕ → ℕ) → List ℕ → ℕ → Type 0
Fits machines level xs slots = All (λ j. level_from level (level j) xs + machines * level j ≤ machines * slots) xs

-- The pieces are those of the rule, over the unit 1.
abbrev pub AreByLevel : Instance → List Piece → Type 0
AreByLevel i pieces = IsLevelSchedule i (record { unit = pos 1; pieces = pieces })
