use Rattle.std.proofs.lemmas.Int.{to_z-of_z}
use Rattle.std.specs.Int.{w128}
use Rattle.std.proofs.Common.{sym, subst}
use Rattle.msp_pieces.specs.Within.{AreSmallTimes}
use Rattle.msp_schedule.proofs.judging.WholeWork.{has_work, lacks_when, no_work}
use Rattle.msp_schedule.proofs.routes.lacks_work.Goals as goal

pub gets_work-requires-clause-small : goal.gets_work-requires-clause-small
gets_work-requires-clause-small c = subst (AreSmallTimes c.args.inst.now) (sym (to_z-of_z w128 c.args.unit c.ranges.unit)) c.requires.small

pub gets_work-requires-clause-operation : goal.gets_work-requires-clause-operation
gets_work-requires-clause-operation c =
    (has_work c.args.inst.now _ _ _ c.args.job c.args.op _ c.has_operation.result
    c.as_slice.ensures c.as_slice-needs.ensures c.env_kind.ensures c.requires.job c.has_operation.ensures).0 c.if-has_operation.true

pub returns-then-has_operation-clause-lacks : goal.returns-then-has_operation-clause-lacks
returns-then-has_operation-clause-lacks c =
    lacks_when c.args.inst.now c.args.unit _ c.args.pieces.now c.args.job c.args.op c.gets_work.result (to_z-of_z w128 c.args.unit c.ranges.unit)
    ((has_work c.args.inst.now _ _ _ c.args.job c.args.op _ c.has_operation.result
    c.as_slice.ensures c.as_slice-needs.ensures c.env_kind.ensures c.requires.job c.has_operation.ensures).0 c.if-has_operation.true) c.gets_work.ensures

pub returns-else-has_operation-clause-worked : goal.returns-else-has_operation-clause-worked
returns-else-has_operation-clause-worked c e h =
    no_work c.has_operation.result c.if-has_operation.false ((has_work c.args.inst.now _ _ _ c.args.job c.args.op _ c.has_operation.result
    c.as_slice.ensures c.as_slice-needs.ensures c.env_kind.ensures c.requires.job c.has_operation.ensures).1 h)
