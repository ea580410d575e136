-- The schedules that the calls take: bounds under which every sum in a product fits a signed number of 128 bits.
use Rattle.std.specs.Prelude.{◌≡◌, ℕ, ◌+◌, ◌*◌, ◌^◌, ◌<◌, ◌≤◌, ◌⊎◌, length, ℤ, pos, ◌+ℤ◌, ◌*ℤ◌, ◌≤ℤ◌, unsigned_abs, All, sum_by}
use Rattle.msp_class.specs.declared.environments.EnvKind.TheVariants.{Unrelated}
use Rattle.msp_class.specs.Env.{kind_of}
use Rattle.msp_class.specs.declared.sizes.TheConstants.{MOST_JOBS, MOST_STEPS, MOST_PIECES, GREATEST, GREATEST_SPEED, GREATEST_UNIT}
use Rattle.msp_instance.specs.declared.Instance.{Instance}
use Rattle.msp_instance.specs.declared.Job.{Job}
use Rattle.msp_instance.specs.Instance.{job_at, need_at}
use Rattle.msp_instance.specs.Conditions.{InClass, LiesWithin}
use Rattle.msp_pieces.specs.declared.limits.TheConstants.{GREATEST_CARRIED_UNIT, GREATEST_MOMENT}
use Rattle.msp_pieces.specs.declared.Schedule.{Schedule}

-- Numbers of type i128 are below it, and not below its negative.
abbrev pub i128_limit : ℕ
i128_limit = 2 ^ 127

-- The moment is one from 0 to the greatest, 2 * 10 ^ 26.
abbrev pub IsMoment : ℤ → Type 0
IsMoment x = (pos 0 ≤ℤ x) × (x ≤ℤ GREATEST_MOMENT)

-- The unit is from 1 to the greatest, 10 ^ 13.
abbrev pub IsUnit : ℤ → Type 0
IsUnit unit = (pos 1 ≤ℤ unit) × (unit ≤ℤ GREATEST_UNIT)

-- Unit, pieces and moments are bounded. On unrelated machines an instance beyond the limits of texts has a smaller unit.
pub record Within (i : Instance) (s : Schedule) : Type 0 where
  pub unit : IsUnit s.unit
  pub few : length s.pieces ≤ MOST_PIECES
  pub moments : All (λ p. IsMoment p.from × IsMoment p.to) s.pieces
  pub scaled : kind_of i.class.env ≡ Unrelated → InClass i ⊎ (s.unit ≤ℤ GREATEST_CARRIED_UNIT)

-- The most, in size, of a date, a time or a threshold over the unit. Dates of carried instances may be twice as great as those of texts.
abbrev pub greatest_scaled : ℕ
greatest_scaled = 2 * GREATEST * unsigned_abs GREATEST_UNIT

-- The most, in size, of a curve without its slope over the unit: its base and adds of steps, which are at most 2 + MOST_STEPS times
-- GREATEST, over the greatest unit 18 * 10 ^ 22.
abbrev pub greatest_level : ℕ
greatest_level = 4 * 10 ^ 23

-- The most, in size, that a moment lies after a due date.
abbrev pub greatest_lateness : ℕ
greatest_lateness = unsigned_abs GREATEST_MOMENT + greatest_scaled

-- The times over the unit fit a signed number of 128 bits.
abbrev pub AreSmallTimes : Instance → ℤ → Type 0
AreSmallTimes i unit = (j o : ℕ) → j < length i.jobs → o < length (job_at i j).needs → LiesWithin greatest_scaled (unit *ℤ pos (need_at i j o).time)

-- The same of release dates.
abbrev pub AreSmallReleases : Instance → ℤ → Type 0
AreSmallReleases i unit = (j : ℕ) → j < length i.jobs → LiesWithin greatest_scaled (unit *ℤ pos (job_at i j).release)

-- The numbers of a job over the unit are so small that its cost fits a signed number of 128 bits, and MOST_JOBS such costs together.
pub record HasSmallCost (unit : ℤ) (j : Job) : Type 0 where
  pub due : LiesWithin greatest_scaled (unit *ℤ j.due)
  pub base : (adds : ℕ) → adds ≤ sum_by (λ s. s.add) j.curve.steps → LiesWithin greatest_level (unit *ℤ (j.curve.base +ℤ pos adds))
  pub few : length j.curve.steps ≤ MOST_STEPS
  pub steps : All (λ s. LiesWithin greatest_scaled (unit *ℤ pos s.above)) j.curve.steps
  pub slope : j.curve.slope ≤ GREATEST
  pub weight : j.weight ≤ GREATEST

-- The most, in size, of the length of a piece, and of its work, on uniform machines times the speed.
abbrev pub greatest_length : ℕ
greatest_length = unsigned_abs GREATEST_MOMENT

abbrev pub greatest_work : ℕ
greatest_work = greatest_length * GREATEST_SPEED

-- The most that the steps of a curve add together: MOST_STEPS adds of 64 bits.
abbrev pub greatest_adds : ℕ
greatest_adds = MOST_STEPS * 2 ^ 64

-- The most that a curve costs by its slope over the unit: the greatest slope at the greatest moment.
abbrev pub greatest_slope_cost : ℕ
greatest_slope_cost = GREATEST * unsigned_abs GREATEST_MOMENT

-- The most that a job costs, in size: rounded up from greatest_slope_cost + greatest_level and from GREATEST * greatest_lateness.
abbrev pub greatest_cost : ℕ
greatest_cost = 21 * 10 ^ 34

-- The most that all jobs cost together, in size. It has to be below i128_limit.
abbrev pub greatest_total : ℕ
greatest_total = MOST_JOBS * greatest_cost
