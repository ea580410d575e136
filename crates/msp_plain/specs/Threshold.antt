-- What a bound on the greatest lateness has to do with sums: no job is late, or tardy, once its due date is raised by the bound.
use Rattle.std.specs.Prelude.{◌≡◌, ℕ, ◌*◌, ◌^◌, ◌⊎◌, ◌↔◌, List, ℤ, pos, ◌+ℤ◌, ◌*ℤ◌, ◌≤ℤ◌, slice_index_or}
use Rattle.msp_class.specs.declared.class.Crit.{Crit}
use Rattle.msp_class.specs.declared.class.Crit.TheVariants.{Lmax, SumU, SumT}
use Rattle.msp_instance.specs.declared.Job.{Job}
use Rattle.msp_instance.specs.declared.Instance.{Instance}
use Rattle.msp_instance.specs.Instance.{no_job}
use Rattle.msp_instance.specs.Conditions.{Inner}
use Rattle.msp_pieces.specs.declared.Piece.{Piece}
use Rattle.msp_pieces.specs.declared.Schedule.{Schedule}
use Rattle.msp_pieces.specs.Feasible.{Feasible}
use Rattle.msp_pieces.specs.Cost.{cost_of}
use Rattle.msp_plain.specs.Changes.{shift_of}

-- The most, in size, of a bound on the greatest lateness: the greatest date of an inner instance and it together are at most greatest_row_date.
abbrev pub greatest_threshold : ℕ
greatest_threshold = 2 * 10 ^ 18

-- The number of late jobs, or the total tardiness.
abbrev pub IsThresholdSum : Crit → Type 0
IsThresholdSum crit = (crit ≡ SumU) ⊎ (crit ≡ SumT)

-- The greatest lateness of the schedule is at most the bound.
abbrev pub Meets : Instance → Schedule → ℤ → Type 0
Meets i s bound = cost_of i s ≤ℤ (bound *ℤ s.unit)

-- The piece ends no later than its job's due date and the bound together.
abbrev pub IsInTime : List Job → ℤ → ℤ → Piece → Type 0
IsInTime jobs unit bound p = p.to ≤ℤ (unit *ℤ ((slice_index_or jobs p.job no_job).due +ℤ bound))

-- The instance with raised due dates has the same feasible schedules, and one meets the bound exactly where it costs 0 there.
pub record IsThreshold (i : Instance) (bound : ℤ) (crit : Crit) (s : Schedule) : Type 0 where
  pub same : Feasible i s ↔ Feasible (shift_of bound crit i) s
  pub meets : Feasible i s → Meets i s bound ↔ (cost_of (shift_of bound crit i) s ≡ pos 0)

-- The two threshold rows.
abbrev pub ThresholdLaw : Type 0
ThresholdLaw = (i : Instance) (bound : ℤ) (crit : Crit) (s : Schedule) → Inner i → i.class.crit ≡ Lmax → IsThresholdSum crit → IsThreshold i bound crit s
