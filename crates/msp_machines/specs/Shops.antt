-- Shops with one more machine on which no job takes time, and routes without the operations of time 0.
use Rattle.std.specs.Prelude.{ℕ, ◌+◌, ◌==◌, Bool, not, List, [], ◌∷◌, ◌++◌, length, map, filter, take}
use Rattle.msp_instance.specs.declared.Need.{Need}
use Rattle.msp_instance.specs.declared.Job.{Job}
use Rattle.msp_instance.specs.declared.Instance.{Instance}
use Rattle.msp_instance.specs.Instance.{job_at}
use Rattle.msp_pieces.specs.declared.Piece.{Piece}
use Rattle.msp_pieces.specs.declared.Schedule.{Schedule}
use Rattle.msp_route.specs.Changes.{led}

-- The job with one more operation, of time 0 on the machine.
abbrev pub with_idle_operation : ℕ → Job → Job
with_idle_operation machine j = record j { needs = j.needs ++ record { machine = machine; time = 0 } ∷ [] }

-- The instance to which the row leads: one more machine, on which each job has an operation of time 0.
abbrev pub with_idle_machine : ℕ → Instance → Instance
with_idle_machine row i = record (led row i) { machines = i.machines + 1; jobs = map (with_idle_operation i.machines) i.jobs }

-- Whether the operation takes time.
abbrev pub takes_time : Need → Bool
takes_time n = not (n.time == 0)

-- The job without its operations of time 0: the others in their order are its route.
abbrev pub without_empty : Job → Job
without_empty j = record j { needs = filter takes_time j.needs }

-- The instance to which the row leads: jobs without operations of time 0.
abbrev pub without_empty_operations : ℕ → Instance → Instance
without_empty_operations row i = record (led row i) { jobs = map without_empty i.jobs }

-- The place of an operation among those that take time.
abbrev pub place_in_route : List Need → ℕ → ℕ
place_in_route needs o = length (filter takes_time (take o needs))

-- The schedule in which the operation of each piece has the number that the piece is given.
abbrev pub with_number : (Piece → ℕ) → Piece → Piece
with_number number p = record p { op = number p }

abbrev pub numbered : (Piece → ℕ) → Schedule → Schedule
numbered number s = record s { pieces = map (with_number number) s.pieces }

-- The number of a piece's operation: its place in the job's route, and the number of its machine, as on a flow shop.
abbrev pub route_number : Instance → Piece → ℕ
route_number i p = place_in_route (job_at i p.job).needs p.op

abbrev pub machine_number : Piece → ℕ
machine_number p = p.machine

-- The schedule with the numbers of operations in the routes, and with those on the flow shop.
abbrev pub numbered_by_route : Instance → Schedule → Schedule
numbered_by_route i s = numbered (route_number i) s

abbrev pub numbered_by_machine : Schedule → Schedule
numbered_by_machine s = numbered machine_number s
