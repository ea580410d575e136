-- The earliest places of jobs that all take one time on uniform machines.
use Rattle.std.specs.Prelude.{◌≡◌, ℕ, ◌*◌, ◌-◌, ◌/◌, ◌<◌, ◌≤◌, ◌⊎◌, false, List, length, map, slice_index_or, pos, ◌*ℤ◌, ◌≤ℤ◌, All, AllPairs, Contains}
use Rattle.msp_class.specs.declared.environments.EnvKind.TheVariants.{Uniform}
use Rattle.msp_class.specs.Env.{kind_of}
use Rattle.msp_instance.specs.declared.Instance.{Instance}
use Rattle.msp_instance.specs.Instance.{need_at, common_time}
use Rattle.msp_instance.specs.Conditions.{Limits, MeetsConditions}
use Rattle.msp_instance.specs.Multiples.{IsLeastOfAll}
use Rattle.msp_pieces.specs.declared.Schedule.{Schedule}
use Rattle.msp_pieces.specs.Feasible.{Feasible}
use Rattle.msp_pieces.specs.Cost.{end_of}
use Rattle.msp_places.specs.declared.place.Place.{Place}

-- How long a job takes on each machine, over a unit that is a multiple of the speeds.
abbrev pub lengths_of : Instance → ℕ → List ℕ
lengths_of i unit = map (λ s. common_time i * (unit / s)) i.speeds

-- Where jobs take on each machine the time that is listed, and follow one another there from moment 0 on: the place of the job of the rank,
-- from 1, on the machine.
abbrev pub place_on : List ℕ → ℕ → ℕ → Place
place_on lengths m rank = record { machine = m; rank = rank; begin = (rank - 1) * slice_index_or lengths m 0; end = rank * slice_index_or lengths m 0 }

-- It is a place on one of the machines, of a rank from 1 to n.
pub record IsPlace (lengths : List ℕ) (n : ℕ) (p : Place) : Type 0 where
  pub machine : p.machine < length lengths
  pub some : 1 ≤ p.rank
  pub few : p.rank ≤ n
  pub is : p ≡ place_on lengths p.machine p.rank

-- The place ends earlier than the other one, or as early and on a lesser machine.
abbrev pub ComesFirst : Place → Place → Type 0
ComesFirst p q = (p.end < q.end) ⊎ ((p.end ≡ q.end) × (p.machine < q.machine))

-- The n earliest places, in order: every other place comes after them.
pub record AreEarliest (lengths : List ℕ) (n : ℕ) (places : List Place) : Type 0 where
  pub count : length places ≡ n
  pub each : All (IsPlace lengths n) places
  pub order : AllPairs ComesFirst places
  pub earliest : (m rank : ℕ) → m < length lengths → 1 ≤ rank → Contains places (place_on lengths m rank) ⊎ All (λ p. ComesFirst p (place_on lengths m rank)) places

-- The earliest places on the machines of the instance, one for each job.
abbrev pub AreEarliestPlaces : Instance → ℕ → List Place → Type 0
AreEarliestPlaces i unit places = AreEarliest (lengths_of i unit) (length i.jobs) places

-- What is read where there is no place, and the place of a number, from 0.
abbrev pub no_place : Place
no_place = record { machine = 0; rank = 0; begin = 0; end = 0 }

abbrev pub place_at : List Place → ℕ → Place
place_at places k = slice_index_or places k no_place

-- Each job has the number of a place of its own, and does not end before that place does.
pub record HaveOwnPlaces (i : Instance) (s : Schedule) (unit : ℕ) (places : List Place) (number : ℕ → ℕ) : Type 0 where
  pub inside : (j : ℕ) → j < length i.jobs → number j < length i.jobs
  pub own : (j k : ℕ) → j < length i.jobs → k < length i.jobs → number j ≡ number k → j ≡ k
  pub ends : (j : ℕ) → j < length i.jobs → (s.unit *ℤ pos (place_at places (number j)).end) ≤ℤ (pos unit *ℤ end_of s j)

-- All jobs take the common time.
abbrev pub TakeCommonTime : Instance → Type 0
TakeCommonTime i = (j : ℕ) → j < length i.jobs → (need_at i j 0).time ≡ common_time i

-- The law of earliest places: where jobs that may not be cut all take one time on uniform machines, each job of any feasible schedule
-- has one of the earliest places for its own, and does not end before it.
abbrev pub LawOfEarliestPlaces : Type 0
LawOfEarliestPlaces = (l : Limits) (i : Instance) (s : Schedule) (unit : ℕ) (places : List Place) → kind_of i.class.env ≡ Uniform → i.class.cut ≡ false → MeetsConditions l i
    → TakeCommonTime i → Feasible i s → IsLeastOfAll i.speeds unit → AreEarliestPlaces i unit places → (number : ℕ → ℕ) × HaveOwnPlaces i s unit places number
