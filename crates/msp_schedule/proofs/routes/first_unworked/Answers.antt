use Rattle.std.proofs.lemmas.Int.{to_z-of_z}
use Rattle.std.specs.Int.{w128}
use Rattle.msp_schedule.proofs.judging.WholeWork.{lacks_first}
use Rattle.std.proofs.Common.{to_z, of_z, sym, subst, below_more}
use Rattle.msp_schedule.specs.Works.{IsWorked}
use Rattle.msp_pieces.specs.Within.{AreSmallTimes}
use Rattle.msp_schedule.proofs.routes.first_unworked.Goals as goal

pub returns-then-lacks_work-clause-some : goal.returns-then-lacks_work-clause-some
returns-then-lacks_work-clause-some c =
    lacks_first c.args.inst.now c.args.unit _ c.args.pieces.now c.args.job c.args.ops c.loop-op.op
    (to_z-of_z w128 c.args.unit c.ranges.unit) c.loop-op-test.true (c.lacks_work.ensures.lacks c.if-lacks_work.true) c.loop-op.invariant

pub lacks_work-requires-clause-small : goal.lacks_work-requires-clause-small
lacks_work-requires-clause-small c = subst (AreSmallTimes c.args.inst.now) (sym (to_z-of_z w128 c.args.unit c.ranges.unit)) c.requires.small

pub loop-op-preserved : goal.loop-op-preserved
loop-op-preserved c = below_more (IsWorked c.args.inst.now (to_z w128 (of_z w128 c.args.unit)) c.args.pieces.now c.args.job) c.loop-op.op c.loop-op.invariant
    (c.lacks_work.ensures.worked c.if-lacks_work.false)
