use Rattle.std.proofs.Common.{ℕ, ◌<◌, refl, sym, subst, lt_of_lt_of_le}
use Rattle.msp_schedule.proofs.judging.FirstBreaks.{routes_next, routes_least}
use Rattle.msp_schedule.proofs.routes.first_route.Goals as goal

pub loop-job-preserved : goal.loop-job-preserved
loop-job-preserved c = routes_next c.args.inst.now c.args.pieces.now c.loop-job.job c.needs_of.result c.needs_of.ensures c.requires.places
    (c.in_default.ensures.none refl) c.loop-job.invariant

pub returns-in-Some-clause-some : goal.returns-in-Some-clause-some
returns-in-Some-clause-some c = routes_least c.args.inst.now c.args.pieces.now c.loop-job.job _ c.in-Some.op
    (subst (λ (n : ℕ). c.loop-job.job < n) c.len-job-end.ensures c.loop-job-test.true) c.in-Some.ensures.some c.loop-job.invariant

pub returns-clause-none : goal.returns-clause-none
returns-clause-none c e j o l = c.loop-job.invariant j o (lt_of_lt_of_le (subst (λ (n : ℕ). j < n) (sym c.len-job-end.ensures) l) c.loop-job-test.false)
