-- The row from equal times to unit times: the lower instance, how costs are translated, and how schedules are carried.
use Rattle.std.specs.Prelude.{ℕ, List, ℤ, pos, ◌*ℤ◌, map}
use Rattle.msp_instance.specs.declared.Need.{Need}
use Rattle.msp_instance.specs.declared.Job.{Job}
use Rattle.msp_instance.specs.declared.Instance.{Instance}
use Rattle.msp_pieces.specs.declared.Piece.{Piece}
use Rattle.msp_pieces.specs.declared.Schedule.{Schedule}
use Rattle.msp_pieces.specs.Busy.{busy_moment}
use Rattle.msp_route.specs.Changes.{led}

-- The need with the time 1, and the job whose needs all have it.
abbrev pub unit_need : Need → Need
unit_need n = record n { time = 1 }

abbrev pub unit_job : Job → Job
unit_job j = record j { needs = map unit_need j.needs }

-- The instance to which row 54 leads: all times are 1.
abbrev pub led_to_unit : Instance → Instance
led_to_unit i = record (led 54 i) { jobs = map unit_job i.jobs }

-- The schedule with its moments over a unit that is as many times as large as the time.
abbrev pub over_time : ℕ → Schedule → Schedule
over_time time s = record { unit = s.unit *ℤ pos time; pieces = s.pieces }

-- The piece between two other moments.
abbrev pub moved : (ℤ → ℤ) → Piece → Piece
moved moment p = record p { from = moment p.from; to = moment p.to }

-- The pieces without the stretches in which no machine works, and all lengths multiplied by the time: a moment becomes the time
-- multiplied by the number of moments before it at which some piece runs.
abbrev pub closed : ℕ → List Piece → List Piece
closed time ps = map (moved (busy_moment time ps)) ps

abbrev pub closed_up : ℕ → Schedule → Schedule
closed_up time s = record { unit = s.unit; pieces = closed time s.pieces }
