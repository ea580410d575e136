use Rattle.std.proofs.Common.{sym, subst}
use Rattle.std.proofs.lemmas.Int.{to_z-of_z}
use Rattle.std.specs.Int.{w128}
use Rattle.msp_pieces.specs.Within.{AreSmallTimes}
use Rattle.msp_schedule.proofs.judging.SortedPieces.{measured_sorted, works_sorted, work_sorted}
use Rattle.msp_schedule.proofs.shares.swept_work.Goals as goal

pub work_in-requires-clause-measured : goal.work_in-requires-clause-measured
work_in-requires-clause-measured c = measured_sorted c.args.pieces.now _ _ c.in_ok-sorted.ensures.permutation c.deref.ensures.value c.args.inst.now c.requires.measured

pub work_in-requires-clause-small : goal.work_in-requires-clause-small
work_in-requires-clause-small c = subst (AreSmallTimes c.args.inst.now) (sym (to_z-of_z w128 c.args.unit c.ranges.unit)) c.requires.small

pub returns-clause-none : goal.returns-clause-none
returns-clause-none c = λ e. works_sorted c.args.pieces.now _ _ c.in_ok-sorted.ensures.permutation
    c.deref.ensures.value c.args.inst.now c.args.unit _ (to_z-of_z w128 c.args.unit c.ranges.unit) (c.work_in.ensures.none e)

pub returns-clause-some : goal.returns-clause-some
returns-clause-some c = work_sorted c.args.pieces.now _ _ c.in_ok-sorted.ensures.permutation c.deref.ensures.value c.args.inst.now c.args.unit _ c.work_in.result
    (to_z-of_z w128 c.args.unit c.ranges.unit) c.work_in.ensures.some
