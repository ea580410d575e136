-- Jobs that take positions in turn, each the one of least multiplier that is left. No public contract cites this file.
use Rattle.std.specs.Prelude.{◌≡◌, ℕ, ◌+◌, ◌*◌, ◌<◌, ◌≤◌, ◌⊎◌, List, length, map, slice_index_or, All, AllPairs, IsPermutation}
use Rattle.std.specs.List.{range_with_len}
use Rattle.msp_instance.specs.declared.Instance.{Instance}
use Rattle.msp_instance.specs.Instance.{need_at}
use Rattle.msp_route.specs.declared.keyed.Keyed.{Keyed}
use Rattle.msp_total.specs.declared.lay.Place.{Place}
use Rattle.msp_total.specs.Places.{place_at}
use Rattle.msp_total.specs.Multipliers.{seats}

-- A job and its time; what is read where there is none.
abbrev pub no_timed : Keyed
no_timed = record { job = 0; key = 0 }

abbrev pub timed_at : List Keyed → ℕ → Keyed
timed_at jobs k = slice_index_or jobs k no_timed

-- All jobs with their times, by falling time, ties by number.
pub record IsByTime (i : Instance) (jobs : List Keyed) : Type 0 where
  pub all : IsPermutation (range_with_len 0 (length i.jobs)) (map (λ t. t.job) jobs)
  pub times : All (λ t. t.key ≡ (need_at i t.job 0).time) jobs
  pub falling : AllPairs (λ a b. (b.key < a.key) ⊎ ((b.key ≡ a.key) × (a.job ≤ b.job))) jobs

-- What the time of a job counts in all on machine m where k others follow it. Each end on the machine counts `step m`.
abbrev pub multiplier : (ℕ → ℕ) → ℕ → ℕ → ℕ
multiplier step m k = (k + 1) * step m

abbrev pub number_at : List ℕ → ℕ → ℕ
number_at xs k = slice_index_or xs k 0

abbrev pub machine_at : List Place → ℕ → ℕ
machine_at places r = (place_at places r).machine

-- The place holds the least of the numbers, and the first such.
pub record IsFirstLeast (xs : List ℕ) (k : ℕ) : Type 0 where
  pub inside : k < length xs
  pub least : (m : ℕ) → m < length xs → number_at xs k ≤ number_at xs m
  pub first : (m : ℕ) → m < k → number_at xs k < number_at xs m

-- The job of a turn is on the machine where it counts least, ties to the lesser machine, and runs there for its time and as many times the machine's step.
pub record IsTurn (steps : List ℕ) (machine : ℕ → ℕ) (r : ℕ) (t : Keyed) (p : Place) : Type 0 where
  pub job : p.job ≡ t.job
  pub length_is : p.length ≡ t.key * number_at steps p.machine
  pub inside : p.machine < length steps
  pub least : (m : ℕ) → m < length steps → multiplier (number_at steps) p.machine (seats machine r p.machine) ≤ multiplier (number_at steps) m (seats machine r m)
  pub first : (m : ℕ) → m < p.machine → multiplier (number_at steps) p.machine (seats machine r p.machine) < multiplier (number_at steps) m (seats machine r m)

-- The places of all jobs, turn by turn.
pub record AreTurns (steps : List ℕ) (jobs : List Keyed) (places : List Place) : Type 0 where
  pub count : length places ≡ length jobs
  pub each : (r : ℕ) → r < length places → IsTurn steps (machine_at places) r (timed_at jobs r) (place_at places r)

-- What the next job would count on each machine.
abbrev pub AreNext : List ℕ → List Place → List ℕ → Type 0
AreNext steps places next = (length next ≡ length steps) × ((m : ℕ) → m < length steps → number_at next m ≡ multiplier (number_at steps) m (seats (machine_at places) (length places) m))
