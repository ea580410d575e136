use Rattle.std.proofs.Common.{◌∙◌, ◌<◌, ◌≤◌, ◌*◌, ◌-◌, All, length, ap, sym, subst, arith}
use Rattle.std.proofs.lemmas.Result.{on_ok_weaker}
use Rattle.msp_class.specs.declared.sizes.TheConstants.{GREATEST, GREATEST_SPEED}
use Rattle.msp_uniform.specs.Segments.{at}
use Rattle.msp_uniform.proofs.ReachedFacts.{speeds_small, time_small}
use Rattle.msp_uniform.proofs.TapedFacts.{tape_inside}
use Rattle.msp_uniform.proofs.HeldFacts.{CanStay, CanTurn, can_stay, can_turn}
use Rattle.msp_uniform.proofs.tape.lay_next.Goals as goal
use Rattle.msp_uniform.proofs.tape.lay_next.Goals.{After-as_slice-speeds, Then-work-tape, Else-work-tape}

inside : (c : After-as_slice-speeds) → c.args.job < length c.args.task.now.times.items
inside c = tape_inside c.args.task.now c.requires.task _ _ _ _ _ _ c.requires.taped.1

slow : (c : After-as_slice-speeds) → All (λ s. s ≤ GREATEST_SPEED) c.as_slice-speeds.result.now
slow c = subst (All (λ s. s ≤ GREATEST_SPEED)) (sym c.as_slice-speeds.ensures.value) (speeds_small c.args.task.now c.requires.task)

-- the rest of the last place is enough, or it is not
here : (c : Then-work-tape) → CanStay c.args.task.now c.as_slice-speeds.result.now c.args.holds.now c.args.job c.args.unit
    c.args.tape.now.place c.need_of-work.result c.args.tape.now.rest c.args.tape.now.early.items c.args.tape.now.late.items
here c = can_stay c.args.task.now c.requires.task _ _ _ _ _ _ _ c.requires.taped.1 c.requires.holds _ _ _
    c.as_slice-speeds.ensures.value (c.need_of-work.ensures ∙ ap (λ ts. c.args.unit * at ts c.args.job) c.as_slice.ensures.value) c.requires.rest (omega (arith, c.if-work-tape.true))

over : (c : Else-work-tape) → CanTurn c.args.task.now c.as_slice-speeds.result.now c.args.holds.now c.args.job c.args.unit
    c.args.tape.now.place c.args.tape.now.rest (c.need_of-work.result - c.args.tape.now.rest) c.args.tape.now.early.items c.args.tape.now.late.items
over c = can_turn c.args.task.now c.requires.task _ _ _ _ _ _ _ c.requires.taped.1 c.requires.holds _ _ _
    c.as_slice-speeds.ensures.value (c.need_of-work.ensures ∙ ap (λ ts. c.args.unit * at ts c.args.job) c.as_slice.ensures.value) c.requires.rest (omega (arith, c.if-work-tape.false))

pub need_of-work-requires-clause-job : goal.need_of-work-requires-clause-job
need_of-work-requires-clause-job c = subst (λ ts. c.args.job < length ts) (sym c.as_slice.ensures.value) (inside (goal.at.need_of-work-requires-clause-job c).After-as_slice-speeds)

pub need_of-work-requires-clause-time : goal.need_of-work-requires-clause-time
need_of-work-requires-clause-time c = subst (λ ts. at ts c.args.job ≤ GREATEST)
    (sym c.as_slice.ensures.value) (time_small c.args.task.now c.requires.task c.args.job (inside (goal.at.need_of-work-requires-clause-time c).After-as_slice-speeds))

pub lay_here-requires-clause-job : goal.lay_here-requires-clause-job
lay_here-requires-clause-job c = omega (arith, inside (goal.at.lay_here-requires-clause-job c).After-as_slice-speeds, c.requires.task.few_jobs)

pub lay_here-requires-clause-speeds : goal.lay_here-requires-clause-speeds
lay_here-requires-clause-speeds c = slow (goal.at.lay_here-requires-clause-speeds c).After-as_slice-speeds

pub lay_over-requires-clause-job : goal.lay_over-requires-clause-job
lay_over-requires-clause-job c = omega (arith, inside (goal.at.lay_over-requires-clause-job c).After-as_slice-speeds, c.requires.task.few_jobs)

pub lay_over-requires-clause-speeds : goal.lay_over-requires-clause-speeds
lay_over-requires-clause-speeds c = slow (goal.at.lay_over-requires-clause-speeds c).After-as_slice-speeds

pub lay_here-requires-clause-late : goal.lay_here-requires-clause-late
lay_here-requires-clause-late c = (here (goal.at.lay_here-requires-clause-late c).Then-work-tape).can

pub returns-then-work-tape : goal.returns-then-work-tape
returns-then-work-tape c = on_ok_weaker c.lay_here.result ((here (goal.at.returns-then-work-tape c).Then-work-tape).next _ _ _ _) c.lay_here.ensures

pub lay_over-requires-clause-place : goal.lay_over-requires-clause-place
lay_over-requires-clause-place c = (over (goal.at.lay_over-requires-clause-place c).Else-work-tape).before

pub lay_over-requires-clause-late : goal.lay_over-requires-clause-late
lay_over-requires-clause-late c = (over (goal.at.lay_over-requires-clause-late c).Else-work-tape).can_late

pub lay_over-requires-clause-early : goal.lay_over-requires-clause-early
lay_over-requires-clause-early c = (over (goal.at.lay_over-requires-clause-early c).Else-work-tape).can_early

pub bounds-holds-tape : goal.bounds-holds-tape
bounds-holds-tape c = ((over (goal.at.bounds-holds-tape c).Else-work-tape).next _ _ _ c.in_ok-lay_over.ensures).0

pub overflow_sub-tape : goal.overflow_sub-tape
overflow_sub-tape c = ((over (goal.at.overflow_sub-tape c).Else-work-tape).next _ _ _ c.in_ok-lay_over.ensures).1

pub returns : goal.returns
returns c = ((over (goal.at.returns c).Else-work-tape).next _ _ _ c.in_ok-lay_over.ensures).2
