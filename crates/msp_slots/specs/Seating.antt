-- Jobs by when they are released and when they begin, in whole numbers: job j is released at `release j` and begins at `begin j`.
use Rattle.std.specs.Prelude.{ℕ, ◌<◌, ◌≤◌, Bool, cond, eqb}
use Rattle.msp_class.specs.Sums.{total_below}

abbrev pub one_if : Bool → ℕ
one_if b = cond b 1 0

-- How many of the first n jobs begin at the moment.
abbrev pub begin_at : ℕ → (ℕ → ℕ) → ℕ → ℕ
begin_at n begin x = total_below n (λ j. one_if (eqb (begin j) x))

-- None of the first n jobs begins before its release date, and no more than m begin at a time.
pub record IsSeated (n m : ℕ) (release begin : ℕ → ℕ) : Type 0 where
  pub released : (j : ℕ) → j < n → release j ≤ begin j
  pub few : (x : ℕ) → begin_at n begin x ≤ m

-- While a job waits that is released, m begin.
abbrev pub IsTight : ℕ → ℕ → (ℕ → ℕ) → (ℕ → ℕ) → Type 0
IsTight n m release begin = (j x : ℕ) → j < n → release j ≤ x → x < begin j → m ≤ begin_at n begin x

-- No job begins before an earlier one of the list.
abbrev pub Rises : ℕ → (ℕ → ℕ) → Type 0
Rises n begin = (a b : ℕ) → a ≤ b → b < n → begin a ≤ begin b
