-- The class that Moore's rule solves, the jobs that the rule accepts, and the order in which it puts all jobs.
use Rattle.std.specs.Prelude.{◌≡◌, ℕ, ◌<◌, ◌≤◌, ◌⊎◌, false, List, [], ◌∷◌, ◌++◌, length, slice_index_or, ℤ, pos, ◌≤ℤ◌, ◌<ℤ◌, All, AllPairs, IsPermutation, sum_by}
use Rattle.std.specs.List.{remove, range_with_len}
use Rattle.msp_class.specs.declared.class.Class.{Class}
use Rattle.msp_class.specs.declared.class.Env.TheVariants.{One}
use Rattle.msp_class.specs.declared.class.Order.TheVariants.{Free}
use Rattle.msp_class.specs.declared.class.Times.TheVariants.{General}
use Rattle.msp_class.specs.declared.class.Crit.TheVariants.{SumU}
use Rattle.msp_instance.specs.declared.Instance.{Instance}
use Rattle.msp_instance.specs.Instance.{job_at, need_at}
use Rattle.msp_route.specs.Dates.{IsDueBefore}

-- One machine, neither preemption nor precedence nor release dates, any times, and the number of late jobs: `1||sumU`.
abbrev pub moore_class : Class
moore_class = record { env = One; cut = false; order = Free; heads = false; times = General; crit = SumU }

-- What stands at the place takes longest, and of what takes as long has the least number.
pub record IsLongest {X : Type 0} (time number : X → ℕ) (xs : List X) (place : ℕ) (longest : X) : Type 0 where
  pub within : place < length xs
  pub is : longest ≡ slice_index_or xs place longest
  pub all : All (λ x. (time x < time longest) ⊎ ((time x ≡ time longest) × (number longest ≤ number x))) xs

-- What the rule accepts and drops of a list, one after another: each is accepted; where all that is accepted then takes longer than until
-- its due date, the longest of it is dropped.
pub data IsChoice {X : Type 0} (time number : X → ℕ) (due : X → ℤ) : List X → List X → List X → Type 0 where
  none : IsChoice time number due [] [] []
  kept : {seen accepted dropped : List X} {x : X} → IsChoice time number due seen accepted dropped → pos (sum_by time (accepted ++ x ∷ [])) ≤ℤ due x
      → IsChoice time number due (seen ++ x ∷ []) (accepted ++ x ∷ []) dropped
  overrun : {seen accepted dropped : List X} {x longest : X} {place : ℕ} → IsChoice time number due seen accepted dropped → due x <ℤ pos (sum_by time (accepted ++ x ∷ []))
      → IsLongest time number (accepted ++ x ∷ []) place longest → IsChoice time number due (seen ++ x ∷ []) (remove (accepted ++ x ∷ []) place) (dropped ++ longest ∷ [])

-- All jobs, each once, by Moore's rule: those that it accepts of the jobs by due date, and then those that it drops, by number.
pub record IsMooreOrder (i : Instance) (order : List ℕ) : Type 0 where
  pub by_date : List ℕ
  pub accepted : List ℕ
  pub dropped : List ℕ
  pub late : List ℕ
  pub all : IsPermutation (range_with_len 0 (length i.jobs)) by_date
  pub sorted : AllPairs (IsDueBefore i) by_date
  pub choice : IsChoice (λ j. (need_at i j 0).time) (λ j. j) (λ j. (job_at i j).due) by_date accepted dropped
  pub moved : IsPermutation dropped late
  pub by_number : AllPairs (λ a b. a < b) late
  pub whole : order ≡ accepted ++ late
