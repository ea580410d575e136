use Rattle.std.proofs.Common.{rules}
use Rattle.std.proofs.lemmas.Int.{to_z-of_z}
use Rattle.std.specs.Int.{w128}
use Rattle.msp_schedule.proofs.judging.JobShares.{route_from_end}
use Rattle.msp_schedule.proofs.breaks.keeps_route.Goals as goal

pub returns : goal.returns
returns c = route_from_end c.args.pieces.now c.args.job c.args.op c.earlier_end.result _ c.operation_begins_from.result
    (to_z-of_z w128 c.earlier_end.result (search rules)) c.requires.moments c.earlier_end.ensures c.operation_begins_from.ensures
