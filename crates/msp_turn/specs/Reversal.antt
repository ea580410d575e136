-- Instances and schedules that are read from their end.
use Rattle.std.specs.Prelude.{ℕ, ◌<◌, ℤ, pos, neg_ℤ, unsigned_abs, ◌+ℤ◌, ◌-ℤ◌, ◌*ℤ◌, length, fold, map, All}
use Rattle.std.specs.Int.{int_max}
use Rattle.msp_instance.specs.declared.Job.{Job}
use Rattle.msp_instance.specs.declared.Instance.{Instance}
use Rattle.msp_instance.specs.Instance.{job_at}
use Rattle.msp_pieces.specs.declared.Piece.{Piece}
use Rattle.msp_pieces.specs.declared.Schedule.{Schedule}
use Rattle.msp_pieces.specs.Feasible.{Feasible}
use Rattle.msp_pieces.specs.Within.{Within, IsUnit, IsMoment}
use Rattle.msp_route.specs.Changes.{led}
use Rattle.msp_route.specs.Rates.{greatest_due}
use Rattle.msp_turn.specs.Turned.{turned_arcs}

-- The instance under the class to which the row leads, with every arc turned.
abbrev pub led_turned : ℕ → Instance → Instance
led_turned row i = record (led row i) { arcs = turned_arcs i.arcs }

-- The job without its release date r, and with the due date -r: as long as it waited at the beginning, it has to be ready before the
-- end.
abbrev pub due_by_release : Job → Job
due_by_release j = record j { release = 0; due = neg_ℤ (pos j.release) }

-- The instance to which row 47 leads.
abbrev pub led_to_due_dates : Instance → Instance
led_to_due_dates i = record (led_turned 47 i) { jobs = map due_by_release i.jobs }

-- The job without its due date, and with the time from its due date to the last one as its release date.
abbrev pub release_by_due : ℤ → Job → Job
release_by_due last j = record j { release = unsigned_abs (last -ℤ j.due); due = pos 0 }

-- The instance to which row 48 leads.
abbrev pub led_to_release_dates : Instance → Instance
led_to_release_dates i = record (led_turned 48 i) { jobs = map (release_by_due (greatest_due i)) i.jobs }

-- The piece as it is read from the moment `last` back.
abbrev pub reversed_piece : ℤ → Piece → Piece
reversed_piece last p = record p { from = last -ℤ p.to; to = last -ℤ p.from }

-- The moment from which a schedule is read back: the greatest end of a piece with the release date of its job added.
abbrev pub turning_moment : Instance → Schedule → ℤ
turning_moment i s = fold int_max (pos 0) (map (λ p. p.to +ℤ (s.unit *ℤ pos (job_at i p.job).release)) s.pieces)

-- The schedule as it is read from that moment back, so that no job of the instance begins before its release date.
abbrev pub reversed_for : Instance → Schedule → Schedule
reversed_for i s = record { unit = s.unit; pieces = map (reversed_piece (turning_moment i s)) s.pieces }

-- The schedule can be read from its end for the instance, within the bounds of schedules.
pub record IsReversible (i : Instance) (s : Schedule) : Type 0 where
  pub feasible : Feasible i (reversed_for i s)
  pub within : Within i (reversed_for i s)
  pub unit : IsUnit s.unit
  pub jobs : All (λ p. p.job < length i.jobs) s.pieces
  pub moments : All (λ p. IsMoment p.from × IsMoment p.to) s.pieces
