use Rattle.std.proofs.Common.{ℕ, ◌<◌, refl, sym, subst, lt_of_lt_of_le}
use Rattle.std.proofs.lemmas.Int.{to_z-of_z}
use Rattle.std.specs.Int.{w128}
use Rattle.msp_schedule.proofs.judging.WholeWork.{lacks_least, worked_next}
use Rattle.msp_pieces.specs.Within.{AreSmallTimes}
use Rattle.msp_schedule.specs.Works.{IsWorked}
use Rattle.msp_schedule.proofs.routes.first_work.Goals as goal

pub returns-in-Some-clause-some : goal.returns-in-Some-clause-some
returns-in-Some-clause-some c =
    lacks_least c.args.inst.now c.args.unit _ _ c.args.pieces.now c.loop-job.job _ c.in-Some.op
    (to_z-of_z w128 c.args.unit c.ranges.unit) refl
    (subst (λ (n : ℕ). c.loop-job.job < n) c.len-job-end.ensures c.loop-job-test.true)
    c.in-Some.ensures.some c.loop-job.invariant

pub loop-job-preserved : goal.loop-job-preserved
loop-job-preserved c = worked_next c.args.inst.now _ _ c.args.pieces.now c.loop-job.job c.needs_of.result
    refl c.requires.measured.inner
    (subst (λ (n : ℕ). c.loop-job.job < n) c.len-job-end.ensures c.loop-job-test.true) c.needs_of.ensures (c.in_default.ensures.none refl) c.loop-job.invariant

pub first_unworked-requires-clause-small : goal.first_unworked-requires-clause-small
first_unworked-requires-clause-small c = subst (AreSmallTimes c.args.inst.now) (sym (to_z-of_z w128 c.args.unit c.ranges.unit)) c.requires.small

pub returns-clause-none : goal.returns-clause-none
returns-clause-none c e j o l = subst (λ u. IsWorked c.args.inst.now u c.args.pieces.now j o) (to_z-of_z w128 c.args.unit c.ranges.unit)
    (c.loop-job.invariant j o (lt_of_lt_of_le (subst (λ (n : ℕ). j < n) (sym c.len-job-end.ensures) l) c.loop-job-test.false))
