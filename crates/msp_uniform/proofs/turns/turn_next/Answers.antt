use Rattle.std.proofs.Common.{◌<◌, ◌≤◌, ◌-◌, false, ap, refl, sym, subst, subst₂, All, length, arith}
use Rattle.msp_class.specs.declared.sizes.TheConstants.{GREATEST, GREATEST_SPEED}
use Rattle.msp_uniform.specs.Segments.{at, HasPlaces, amount, greatest_length}
use Rattle.msp_uniform.proofs.ReachedFacts.{speeds_small, time_small, reached_unit, reached_short, reached_places, next_inside, IsTurning, turning_as, work_is, read_long, read_short}
use Rattle.msp_uniform.proofs.turns.turn_next.Goals as goal
use Rattle.msp_uniform.proofs.turns.turn_next.Goals.{After-as_slice-4}

-- the job needs more than the last place gives
made : (c : After-as_slice-4) → IsTurning c.args.task.now c.as_slice-4.result.now c.replace-segments.result.items
    c.args.job c.args.plan.now.unit c.args.plan.now.places c.need_of-work.result c.args.plan.now.segments.items
made c = turning_as c.args.task.now c.requires.task _ _ _ _ _ c.requires.reached.1
    (read_long c.args.task.now c.args.plan.now.unit _ _ _ _ c.args.plan.now.segments.items _ _ _ c.as_slice.ensures.value
    c.as_slice-3.ensures.value c.as_slice-2.ensures.value c.need_of-work.ensures c.work_of.ensures (omega (arith, c.if-work-work_of.false)))
    _ _ _ c.as_slice-4.ensures.value (ap (λ v. v.items) c.replace-segments.ensures.value) (work_is c.args.task.now c.args.plan.now.unit _ _ _ c.as_slice.ensures.value c.need_of-work.ensures)

pub need_of-work-requires-clause-unit : goal.need_of-work-requires-clause-unit
need_of-work-requires-clause-unit c = reached_unit c.args.task.now c.requires.task _ _ _ _ c.requires.reached.1

pub work_of-requires-clause-short : goal.work_of-requires-clause-short
work_of-requires-clause-short c = subst (λ ys. amount (λ _. 1) ys ≤ greatest_length) (sym c.as_slice-2.ensures.value) (reached_short c.args.task.now c.requires.task _ _ _ _ c.requires.reached.1)

pub need_of-work-requires-clause-job : goal.need_of-work-requires-clause-job
need_of-work-requires-clause-job c = subst (λ ts. c.args.job < length ts) (sym c.as_slice.ensures.value) (next_inside c.args.task.now c.requires.task _ _ _ _ _ c.requires.reached.1)

pub need_of-work-requires-clause-time : goal.need_of-work-requires-clause-time
need_of-work-requires-clause-time c = subst (λ ts. at ts c.args.job ≤ GREATEST)
    (sym c.as_slice.ensures.value) (time_small c.args.task.now c.requires.task c.args.job (next_inside c.args.task.now c.requires.task _ _ _ _ _ c.requires.reached.1))

pub work_of-requires-clause-places : goal.work_of-requires-clause-places
work_of-requires-clause-places c = subst₂ (λ sp ys. All (HasPlaces (length sp) false (c.args.plan.now.places - 1)) ys)
    (sym c.as_slice-3.ensures.value) (sym c.as_slice-2.ensures.value) (reached_places c.args.task.now c.requires.task _ _ _ _ c.requires.reached.1)

pub work_of-requires-clause-speeds : goal.work_of-requires-clause-speeds
work_of-requires-clause-speeds c = subst (All (λ s. s ≤ GREATEST_SPEED)) (sym c.as_slice-3.ensures.value) (speeds_small c.args.task.now c.requires.task)

pub returns-then-work-work_of : goal.returns-then-work-work_of
returns-then-work-work_of c = (
  refl,
  refl,
  refl,
  read_short c.args.task.now c.args.plan.now.unit _ _ _ _ c.args.plan.now.segments.items _ _ _ c.as_slice.ensures.value
      c.as_slice-3.ensures.value c.as_slice-2.ensures.value c.need_of-work.ensures c.work_of.ensures (omega (arith, c.if-work-work_of.true)),
)

pub turn-requires-clause-job : goal.turn-requires-clause-job
turn-requires-clause-job c = omega (arith, next_inside c.args.task.now c.requires.task _ _ _ _ _ c.requires.reached.1, c.requires.task.few_jobs)

pub turn-requires-clause-speeds : goal.turn-requires-clause-speeds
turn-requires-clause-speeds c = subst (All (λ s. s ≤ GREATEST_SPEED)) (sym c.as_slice-4.ensures.value) (speeds_small c.args.task.now c.requires.task)

pub turn-requires-clause-last : goal.turn-requires-clause-last
turn-requires-clause-last c = (made (goal.at.turn-requires-clause-last c).After-as_slice-4).last

pub turn-requires-clause-some : goal.turn-requires-clause-some
turn-requires-clause-some c = (made (goal.at.turn-requires-clause-some c).After-as_slice-4).some

pub turn-requires-clause-each : goal.turn-requires-clause-each
turn-requires-clause-each c = (made (goal.at.turn-requires-clause-each c).After-as_slice-4).each

pub turn-requires-clause-short : goal.turn-requires-clause-short
turn-requires-clause-short c = (made (goal.at.turn-requires-clause-short c).After-as_slice-4).short

pub turn-requires-clause-first : goal.turn-requires-clause-first
turn-requires-clause-first c = (made (goal.at.turn-requires-clause-first c).After-as_slice-4).first

pub overflow_mul-plan : goal.overflow_mul-plan
overflow_mul-plan c = let small = ((made (goal.at.overflow_mul-plan c).After-as_slice-4).turned _ _ c.in_ok-turned.ensures).0 in omega (arith, small)

pub returns : goal.returns
returns c = ((made (goal.at.returns c).After-as_slice-4).turned _ _ c.in_ok-turned.ensures).1
