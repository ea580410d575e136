use Rattle.std.proofs.Common.{[], ◌*◌, ◌-◌, ◌≤◌, ◌∙◌, All, ap, sym, subst, subst₂, false, length, arith}
use Rattle.msp_class.specs.declared.sizes.TheConstants.{GREATEST_SPEED}
use Rattle.msp_uniform.specs.Segments.{at, AreWorks, HasPlaces, AreScaled, greatest_length}
use Rattle.msp_uniform.specs.Plans.{IsTaped, DoHold, IsFilled}
use Rattle.msp_uniform.proofs.ReachedFacts.{speeds_small}
use Rattle.msp_uniform.proofs.TapedFacts.{start_unit, start_short, IsTaped-start, late_short, late_places, taped_next, IsTaped-loop, IsTaped-done}
use Rattle.msp_uniform.proofs.HeldFacts.{DoHold-start}
use Rattle.msp_uniform.proofs.tape.lay_all.Goals as goal
use Rattle.msp_uniform.proofs.tape.lay_all.Goals.{In_ok-late}

-- the segments over the finer unit are a tape
taped : (c : In_ok-late) → IsTaped c.args.task.now c.args.jobs.now (c.args.plan.unit * c.args.task.now.multiple) (c.args.plan.places - 1) [] c.in_ok-late.late.items
taped c = IsTaped-start c.args.task.now c.requires.task _ _ _ _ c.requires.reached c.requires.short _
    (subst (λ m. AreScaled m c.args.plan.segments.items c.in_ok-late.late.items) c.from-multiple.ensures c.in_ok-late.ensures)

pub overflow_mul-unit : goal.overflow_mul-unit
overflow_mul-unit c =
    let small = start_unit c.args.task.now c.requires.task _ _ _ _ c.requires.reached in
    omega (arith, small, ap (λ m. c.args.plan.unit * m) c.from-multiple.ensures)

pub scaled-requires : goal.scaled-requires
scaled-requires c = subst (λ m. All (λ x. x.length * m ≤ greatest_length) c.args.plan.segments.items)
    (sym c.from-multiple.ensures) (start_short c.args.task.now c.requires.task _ _ _ _ c.requires.reached)

pub works_in-requires-clause-each : goal.works_in-requires-clause-each
works_in-requires-clause-each c p l = subst (λ sp. All (HasPlaces (length sp) false p) c.in_ok-late.late.items) (sym c.as_slice.ensures.value)
    (late_places c.args.task.now c.requires.task _ _ _ _ _ (taped (goal.at.works_in-requires-clause-each c).In_ok-late) p (omega (arith, l)))

pub works_in-requires-clause-speeds : goal.works_in-requires-clause-speeds
works_in-requires-clause-speeds c = subst (All (λ s. s ≤ GREATEST_SPEED)) (sym c.as_slice.ensures.value) (speeds_small c.args.task.now c.requires.task)

pub works_in-requires-clause-short : goal.works_in-requires-clause-short
works_in-requires-clause-short c = late_short c.args.task.now c.requires.task _ _ _ _ _ (taped (goal.at.works_in-requires-clause-short c).In_ok-late)

pub loop-job-init : goal.loop-job-init
loop-job-init c =
    let works = subst₂ (λ sp ws. AreWorks (at sp) c.args.plan.places c.in_ok-late.late.items ws) c.as_slice.ensures.value (sym c.as_slice-holds.ensures.value) c.in_ok-works.ensures in
    record {
      taped = subst₂ (λ m es. IsTaped c.args.task.now c.args.jobs.now (c.args.plan.unit * m) (c.args.plan.places - 1) es c.in_ok-late.late.items)
          (sym c.from-multiple.ensures) (sym c.new-early.ensures.items) (taped (goal.at.loop-job-init c).In_ok-late);
      rest = works.each (c.args.plan.places - 1) (omega (arith, c.requires.reached.places));
      holds = subst (λ es. DoHold c.args.task.now.speeds.items c.as_slice-holds.result.now (c.args.plan.places - 1) es c.in_ok-late.late.items)
          (sym c.new-early.ensures.items) (DoHold-start _ _ _ _ works);
    }

pub lay_next-requires-clause-taped : goal.lay_next-requires-clause-taped
lay_next-requires-clause-taped c = taped_next _ _ _ _ _ _ _ _ c.loop-job-test.true c.loop-job.invariant.taped

pub loop-job-preserved : goal.loop-job-preserved
loop-job-preserved c = record {
  taped = IsTaped-loop _ _ _ _ _ _ _ _ _ _ _ c.loop-job-test.true c.in_ok-lay_next.ensures.taped c.loop-job.invariant.taped;
  rest = c.in_ok-lay_next.ensures.left;
  holds = c.in_ok-lay_next.ensures.held;
}

pub returns : goal.returns
returns c = subst (IsFilled c.args.task.now (c.args.plan.unit * c.from-multiple.result)) (sym (c.into_vec.ensures.items ∙ c.in_ok-append.ensures.items))
    (IsTaped-done c.args.task.now c.requires.task c.args.jobs.now c.loop-job.job-index _ _ _ _ (omega (arith, c.loop-job-test.false)) c.loop-job.invariant.taped)
