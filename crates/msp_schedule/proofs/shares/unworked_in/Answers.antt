use Rattle.std.proofs.Common.{sym, subst}
use Rattle.std.proofs.lemmas.Int.{to_z-of_z}
use Rattle.std.specs.Int.{w128}
use Rattle.msp_pieces.specs.Within.{AreSmallTimes}
use Rattle.msp_schedule.proofs.judging.JobShares.{measured_share, unworked_none, unworked_some}
use Rattle.msp_schedule.proofs.shares.unworked_in.Goals as goal

pub first_unworked-requires-clause-measured : goal.first_unworked-requires-clause-measured
first_unworked-requires-clause-measured c = measured_share c.args.pieces.now c.args.job _ c.args.inst.now c.share.ensures c.requires.measured

pub first_unworked-requires-clause-small : goal.first_unworked-requires-clause-small
first_unworked-requires-clause-small c = subst (AreSmallTimes c.args.inst.now) (sym (to_z-of_z w128 c.args.unit c.ranges.unit)) c.requires.small

pub returns-clause-none : goal.returns-clause-none
returns-clause-none c = λ e. unworked_none c.args.pieces.now c.args.job _ c.args.inst.now c.args.unit _ c.args.ops
    (to_z-of_z w128 c.args.unit c.ranges.unit) c.share.ensures (c.first_unworked.ensures.none e)

pub returns-clause-some : goal.returns-clause-some
returns-clause-some c = unworked_some c.args.pieces.now c.args.job _ c.args.inst.now c.args.unit _ c.args.ops c.first_unworked.result
    (to_z-of_z w128 c.args.unit c.ranges.unit) c.share.ensures c.first_unworked.ensures.some
