-- Pieces of time: elements of any type, by the moments at which they begin and end.
use Rattle.std.specs.Prelude.{◌≡◌, ℕ, ◌-◌, ◌≤◌, ◌⊎◌, eqb, List, filter, sum_by}

-- How long one lasts.
abbrev pub size_of : {X : Type 0} → (X → ℕ) → (X → ℕ) → X → ℕ
size_of from to q = to q - from q

-- One of the two ends no later than the other begins.
abbrev pub IsApart : {X : Type 0} → (X → ℕ) → (X → ℕ) → X → X → Type 0
IsApart from to p q = (to p ≤ from q) ⊎ (to q ≤ from p)

-- The same of two on one machine, or of one job.
abbrev pub IsApartOn : {X : Type 0} → (X → ℕ) → (X → ℕ) → (X → ℕ) → X → X → Type 0
IsApartOn machine from to p q = machine p ≡ machine q → IsApart from to p q

-- How long those of a job last together.
abbrev pub work_of : {X : Type 0} → (X → ℕ) → (X → ℕ) → (X → ℕ) → List X → ℕ → ℕ
work_of job from to xs j = sum_by (size_of from to) (filter (λ q. eqb (job q) j) xs)
