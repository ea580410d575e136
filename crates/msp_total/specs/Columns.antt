-- Jobs by the columns that an assignment gives them. No public contract cites this file.
use Rattle.std.specs.Prelude.{◌≡◌, ℕ, ◌*◌, ◌/◌, ◌<◌, ◌≤◌, List, length, map, slice_index_or, All, AllPairs, IsPermutation}
use Rattle.std.specs.List.{range_with_len}
use Rattle.msp_class.specs.declared.sizes.TheConstants.{GREATEST, GREATEST_MULTIPLE}
use Rattle.msp_instance.specs.declared.Instance.{Instance}
use Rattle.msp_instance.specs.Instance.{need_at}
use Rattle.msp_assign.specs.declared.assignment.Assignment.{Assignment}
use Rattle.msp_assign.specs.Prices.{IsAssigned, IsPriced, HasFreeColumn, column_of, cost_of, price_of}
use Rattle.msp_total.specs.declared.lay.Place.{Place}
use Rattle.msp_total.specs.declared.positions.Positions.{Positions}
use Rattle.msp_total.specs.declared.unrelated.Chosen.{Chosen}
use Rattle.msp_total.specs.Places.{place_at}
use Rattle.msp_total.specs.Positions.{time_in, position_cost}

-- The times of the first jobs, by job and machine.
pub record HasTimes (i : Instance) (jobs : ℕ) (times : List ℕ) : Type 0 where
  pub count : length times ≡ jobs * i.machines
  pub each : (j m : ℕ) → j < jobs → m < i.machines → time_in i.machines times j m ≡ (need_at i j m).time

-- The table has the times of the instance.
pub record IsTableOf (i : Instance) (p : Positions) : Type 0 where
  pub jobs : p.jobs ≡ length i.jobs
  pub machines : p.machines ≡ i.machines
  pub times : HasTimes i p.jobs p.times

-- No time of the table is longer than those of an inner instance.
abbrev pub HasShortTimes : Positions → Type 0
HasShortTimes p = (j m : ℕ) → j < p.jobs → m < p.machines → time_in p.machines p.times j m ≤ GREATEST * GREATEST_MULTIPLE

-- A least assignment of the jobs to the positions, with its prices.
pub record IsPositioned (p : Positions) (a : Assignment) : Type 0 where
  pub assigned : IsAssigned p.jobs (p.jobs * p.machines) a.column
  pub priced : IsPriced p.jobs (p.jobs * p.machines) (position_cost p.jobs p.machines p.times) a
  pub zero : HasFreeColumn (p.jobs * p.machines) a
  pub total : cost_of p.jobs (position_cost p.jobs p.machines p.times) a.column ≡ price_of p.jobs (p.jobs * p.machines) a

-- A job and its column; what is read where there is none.
abbrev pub no_chosen : Chosen
no_chosen = record { job = 0; column = 0 }

abbrev pub chosen_at : List Chosen → ℕ → Chosen
chosen_at chosen k = slice_index_or chosen k no_chosen

-- All jobs with their columns, by rising column.
pub record IsByColumn (jobs : ℕ) (column : List ℕ) (chosen : List Chosen) : Type 0 where
  pub all : IsPermutation (range_with_len 0 jobs) (map (λ c. c.job) chosen)
  pub columns : All (λ c. c.column ≡ column_of column c.job) chosen
  pub rising : AllPairs (λ a b. a.column ≤ b.column) chosen

-- The places of the jobs, in the same order.
abbrev pub IsPlaceOf : Positions → Chosen → Place → Type 0
IsPlaceOf p c q = (q.job ≡ c.job) × (q.machine ≡ c.column / p.jobs) × (q.length ≡ time_in p.machines p.times c.job (c.column / p.jobs))

pub record ArePlacesOf (p : Positions) (chosen : List Chosen) (places : List Place) : Type 0 where
  pub count : length places ≡ length chosen
  pub placed : (r : ℕ) → r < length places → IsPlaceOf p (chosen_at chosen r) (place_at places r)
