-- Johnson's order of jobs with times on two machines.
use Rattle.std.specs.Prelude.{ℕ, ◌<◌, ◌≤◌, ◌⊎◌, if◌then◌else◌, nat_le}
use Rattle.std.specs.Ordering.{nat_cmp}
use Rattle.std.specs.declared.cmp.Ordering.{Ordering}
use Rattle.std.specs.declared.cmp.Ordering.TheVariants.{Less, Greater}

-- The jobs that take no longer on the first machine come first, the least first time first; then the others, the greatest second time first.
abbrev pub GoesBefore : {X : Type 0} → (X → ℕ) → (X → ℕ) → X → X → Type 0
GoesBefore first second x y = ((first x ≤ second x) × ((second y < first y) ⊎ (first x ≤ first y))) ⊎ ((second x < first x) × (second y < first y) × (second y ≤ second x))

-- The same, and of two that may stand either way the one of the lesser number.
abbrev pub ComesFirst : {X : Type 0} → (X → ℕ) → (X → ℕ) → (X → ℕ) → X → X → Type 0
ComesFirst first second number x y = GoesBefore first second x y × (GoesBefore first second y x → number x < number y)

-- How the rule compares times a and b on the machines with times c and d.
abbrev pub compared : ℕ → ℕ → ℕ → ℕ → Ordering
compared a b c d = if nat_le a b then (if nat_le c d then nat_cmp a c else Less) else (if nat_le c d then Greater else nat_cmp d b)
