-- The bounds that solutions keep on their way back, and those of a solver's answer.
use Rattle.std.specs.Prelude.{◌≡◌, ℕ, ◌≤◌, ◌==◌, Bool, true, not, ◌||◌, length, ℤ, pos, ◌+ℤ◌, ◌≤ℤ◌, All, if◌then◌else◌}
use Rattle.msp_class.specs.declared.environments.EnvKind.{EnvKind}
use Rattle.msp_class.specs.declared.environments.EnvKind.TheVariants.{Identical, Uniform, Unrelated, OpenShop, FlowShop, JobShop}
use Rattle.msp_class.specs.Env.{kind_of}
use Rattle.msp_instance.specs.declared.Instance.{Instance}
use Rattle.msp_class.specs.declared.sizes.TheConstants.{MOST_PIECES, GREATEST_UNIT}
use Rattle.msp_pieces.specs.declared.limits.TheConstants.{GREATEST_CARRIED_UNIT}
use Rattle.msp_pieces.specs.declared.Schedule.{Schedule}
use Rattle.msp_pieces.specs.Cost.{cost_of, Best}
use Rattle.msp_table.specs.Rows.{keeps_size}
use Rattle.msp_route.specs.declared.bounds.TheConstants.{GREATEST_BACK_MOMENT, GREATEST_RAISE, GREATEST_LINED_UP, GREATEST_CLOSED_UP, GREATEST_ANSWER_MOMENT, GREATEST_OPEN_UNIT}

-- No piece ends after the moment.
abbrev pub EndsBy : ℤ → Schedule → Type 0
EndsBy moment s = All (λ p. p.to ≤ℤ moment) s.pieces

-- All pieces lie between two moments.
abbrev pub LiesBetween : ℤ → ℤ → Schedule → Type 0
LiesBetween first last s = All (λ p. (first ≤ℤ p.from) × (p.to ≤ℤ last)) s.pieces

-- The greatest unit of a schedule that is brought back, by the kind of its machines.
abbrev pub greatest_unit : EnvKind → ℤ
greatest_unit Identical = GREATEST_UNIT
greatest_unit Uniform = GREATEST_UNIT
greatest_unit Unrelated = GREATEST_CARRIED_UNIT
greatest_unit OpenShop = GREATEST_UNIT
greatest_unit FlowShop = GREATEST_UNIT
greatest_unit JobShop = GREATEST_UNIT

-- The schedule has pieces and a unit within the limits.
pub record IsSized (i : Instance) (s : Schedule) : Type 0 where
  pub few : length s.pieces ≤ MOST_PIECES
  pub unit : s.unit ≤ℤ greatest_unit (kind_of i.class.env)

-- A schedule that is brought back over a row.
pub record IsBounded (i : Instance) (s : Schedule) : Type 0 where
  pub sized : IsSized i s
  pub ends : EndsBy GREATEST_BACK_MOMENT s

-- The way back over most rows keeps the schedule as it is. Rows 26 and 27 multiply its unit, 39 and 40 give the operations other
-- numbers, 45 to 48 read it from its end, 50 to 52 line the jobs up, and 54 takes out the time in which no machine works.
abbrev pub keeps_schedule : ℕ → Bool
keeps_schedule row = not (row == 26 || row == 27 || row == 39 || row == 40 || row == 45 || row == 46 || row == 47 || row == 48 || row == 50 || row == 51 || row == 52 || row == 54)

-- Rows 47 and 48 make due dates of release dates, and the reverse.
abbrev pub trades_dates : ℕ → Bool
trades_dates row = row == 47 || row == 48

-- The greatest moment after a row, where the moment is the greatest before it. Only four rows may raise it.
abbrev pub moment_after : ℕ → ℤ → ℤ
moment_after row moment =
    if row == 47 then moment +ℤ GREATEST_RAISE
    else if row == 51 || row == 52 then GREATEST_LINED_UP
    else if row == 54 then GREATEST_CLOSED_UP
    else moment

-- What an upper schedule keeps of the lower one from which it is brought back.
pub record KeepsBounds (row : ℕ) (upper lower : Instance) (before after : Schedule) : Type 0 where
  pub same : keeps_schedule row ≡ true → after ≡ before
  pub few : length after.pieces ≤ length before.pieces
  -- rows 26 and 27 alone multiply the unit
  pub unit : keeps_size row ≡ true → after.unit ≡ before.unit
  pub sized : IsSized upper after
  pub ends : (moment : ℤ) → EndsBy moment before → EndsBy (moment_after row moment) after
  -- read from its end, a schedule lies between 0 and the lower cost
  pub dates : trades_dates row ≡ true → LiesBetween (pos 0) (cost_of lower before) after

-- The greatest unit of a solver's answer, by the kind of the machines.
abbrev pub answer_unit : EnvKind → ℤ
answer_unit Identical = GREATEST_UNIT
answer_unit Uniform = GREATEST_UNIT
answer_unit Unrelated = GREATEST_CARRIED_UNIT
answer_unit OpenShop = GREATEST_OPEN_UNIT
answer_unit FlowShop = GREATEST_UNIT
answer_unit JobShop = GREATEST_UNIT

-- The bounds of a solver's answer.
pub record IsAnswer (i : Instance) (s : Schedule) : Type 0 where
  pub few : length s.pieces ≤ MOST_PIECES
  pub unit : s.unit ≤ℤ answer_unit (kind_of i.class.env)
  pub ends : EndsBy GREATEST_ANSWER_MOMENT s

-- What a solver owes of the schedule that it makes.
pub record IsBestAnswer (i : Instance) (s : Schedule) : Type 0 where
  pub best : Best i s
  pub answer : IsAnswer i s
