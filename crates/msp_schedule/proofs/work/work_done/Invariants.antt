-- What the pieces of the operation so far add up to.
use Rattle.std.proofs.Common.{◌≡◌, ◌*◌, map, take}
use Rattle.msp_class.specs.Env.{kind_of}
use Rattle.msp_instance.specs.Conditions.{LiesWithin}
use Rattle.msp_pieces.specs.Feasible.{total, work_of}
use Rattle.msp_schedule.specs.Breaks.{pieces_among}
use Rattle.msp_schedule.proofs.work.work_done.Given as goal
use Rattle.msp_pieces.specs.Within.{greatest_work}

abbrev pub invariant-loop-piece : goal.invariant-loop-piece
invariant-loop-piece l =
    (l.sum ≡ total (map (work_of (kind_of l.inst.class.env) l.inst) (pieces_among (take l.piece-index l.pieces) l.job l.op)))
    × LiesWithin (l.piece-index * greatest_work) l.sum
