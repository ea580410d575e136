use Rattle.std.proofs.Common.{◌≤◌, All, ◌∙◌, sym, subst, rules}
use Rattle.std.proofs.lemmas.Int.{to_z-of_z}
use Rattle.std.specs.Int.{w128}
use Rattle.msp_class.specs.declared.sizes.TheConstants.{GREATEST_SPEED}
use Rattle.msp_instance.specs.Conditions.{HasSmallMultiple}
use Rattle.msp_total.proofs.UniformFacts.{speeds_some}
use Rattle.msp_total.specs.Multipliers.{IsByMultipliers}
use Rattle.msp_total.proofs.UniformAnswer.{steps_small, jobs_few, jobs_short, places_small, answer_read}
use Rattle.msp_total.proofs.uniform.schedule_by_multipliers.Goals as goal
use Rattle.msp_pieces.proofs.feasible.OfClass.{IsOfClass-from}
use Rattle.msp_total.specs.Classes.{uniform_class}

pub multiple_of_all-unit-requires : goal.multiple_of_all-unit-requires
multiple_of_all-unit-requires c =
    let h = IsOfClass-from c.args.inst.now uniform_class c.requires.class c.requires.inner in
    record {
      speeds = subst (All (λ s. (1 ≤ s) × (s ≤ GREATEST_SPEED))) (sym c.as_slice-speeds.ensures) h.speeds.1;
      small = subst HasSmallMultiple (sym c.as_slice-speeds.ensures) h.multiple;
    }

pub steps_of-requires : goal.steps_of-requires
steps_of-requires c = subst (All (λ s. 1 ≤ s)) (sym c.as_slice-speeds.ensures) (speeds_some c.args.inst.now (IsOfClass-from c.args.inst.now uniform_class c.requires.class c.requires.inner))

pub places_of-requires-clause-jobs : goal.places_of-requires-clause-jobs
places_of-requires-clause-jobs c =
    let h = IsOfClass-from c.args.inst.now uniform_class c.requires.class c.requires.inner in
    jobs_few c.args.inst.now h _ _ c.as_slice-speeds.ensures
    c.multiple_of_all-unit.ensures.least c.multiple_of_all-unit.ensures.small c.in_ok-jobs.jobs.items _ c.in_ok-jobs.ensures c.as_slice.ensures.value

pub places_of-requires-clause-steps : goal.places_of-requires-clause-steps
places_of-requires-clause-steps c =
    let h = IsOfClass-from c.args.inst.now uniform_class c.requires.class c.requires.inner in
    steps_small c.args.inst.now h _ _ c.as_slice-speeds.ensures
    c.multiple_of_all-unit.ensures.least c.multiple_of_all-unit.ensures.small c.in_ok-steps.steps.items _ c.in_ok-steps.ensures c.as_slice-2.ensures.value

pub places_of-requires-clause-times : goal.places_of-requires-clause-times
places_of-requires-clause-times c =
    let h = IsOfClass-from c.args.inst.now uniform_class c.requires.class c.requires.inner in
    jobs_short c.args.inst.now h _ _ c.as_slice-speeds.ensures
    c.multiple_of_all-unit.ensures.least c.multiple_of_all-unit.ensures.small c.in_ok-jobs.jobs.items _ c.in_ok-jobs.ensures c.as_slice.ensures.value

pub lay-requires : goal.lay-requires
lay-requires c =
    let h = IsOfClass-from c.args.inst.now uniform_class c.requires.class c.requires.inner in
    places_small c.args.inst.now h _ _ c.as_slice-speeds.ensures c.multiple_of_all-unit.ensures.least c.multiple_of_all-unit.ensures.small c.in_ok-jobs.jobs.items _ c.in_ok-jobs.ensures
    c.as_slice.ensures.value c.in_ok-steps.steps.items _ c.in_ok-steps.ensures c.as_slice-2.ensures.value c.in_ok-places.places.items _ c.in_ok-places.ensures c.as_slice-3.ensures.value

pub best_solution-requires-clause-best : goal.best_solution-requires-clause-best
best_solution-requires-clause-best c = (answer_read c.args.inst.now (IsOfClass-from c.args.inst.now uniform_class c.requires.class c.requires.inner) _ _ c.as_slice-speeds.ensures
    c.multiple_of_all-unit.ensures.least c.multiple_of_all-unit.ensures.small c.in_ok-jobs.jobs.items _ c.in_ok-jobs.ensures c.as_slice.ensures.value c.in_ok-steps.steps.items _ c.in_ok-steps.ensures
    c.as_slice-2.ensures.value c.in_ok-places.places.items _ c.in_ok-places.ensures c.as_slice-3.ensures.value _ _ (to_z-of_z w128 _ (search rules) ∙ c.from.ensures) c.in_ok-pieces.ensures).best

pub returns-clause-order : goal.returns-clause-order
returns-clause-order c = subst (IsByMultipliers c.args.inst.now) (sym c.best_solution.ensures.schedule)
    (answer_read c.args.inst.now (IsOfClass-from c.args.inst.now uniform_class c.requires.class c.requires.inner) _ _ c.as_slice-speeds.ensures
    c.multiple_of_all-unit.ensures.least c.multiple_of_all-unit.ensures.small c.in_ok-jobs.jobs.items _ c.in_ok-jobs.ensures c.as_slice.ensures.value c.in_ok-steps.steps.items _ c.in_ok-steps.ensures
    c.as_slice-2.ensures.value c.in_ok-places.places.items _ c.in_ok-places.ensures c.as_slice-3.ensures.value _ _ (to_z-of_z w128 _ (search rules) ∙ c.from.ensures) c.in_ok-pieces.ensures).order
