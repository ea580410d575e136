use Rattle.std.proofs.Common.{◌<◌, ◌≤◌, All, List, length, refl, rules, to_z, of_z, sym, ap, subst, arith}
use Rattle.std.specs.Prelude.{IfSome}
use Rattle.std.proofs.lemmas.Int.{to_z-of_z}
use Rattle.std.specs.Int.{w128}
use Rattle.msp_class.specs.declared.class.Order.{Order}
use Rattle.msp_class.specs.declared.class.Order.TheVariants.{Free}
use Rattle.msp_class.specs.declared.sizes.TheConstants.{MOST_JOBS, MOST_ARCS}
use Rattle.msp_instance.specs.declared.Arc.{Arc}
use Rattle.msp_instance.specs.Conditions.{HasArcs}
use Rattle.msp_pieces.specs.Within.{IsMoment, AreSmallReleases, AreSmallTimes}
use Rattle.msp_schedule.specs.Works.{IsFirstUnworked}
use Rattle.msp_schedule.specs.Breaks.{IsFirstOverlap, IsFirstOutOfRoute, HasRoutes}
use Rattle.msp_pieces.proofs.costs.Small.{small_releases, small_times}
use Rattle.msp_schedule.proofs.judging.Deciding.{first_span, first_place, first_machine, first_job, first_release, first_arc, first_route, first_work, none_broken}
use Rattle.msp_schedule.proofs.judging.SweepFacts.{none_is, measurable}
use Rattle.msp_schedule.proofs.sweep.decided.Goals as goal

pub returns-in-Some : goal.returns-in-Some
returns-in-Some c = first_span c.as_slice-pieces.ensures c.in-Some.ensures.some

pub returns-in-Some-first_misplaced : goal.returns-in-Some-first_misplaced
returns-in-Some-first_misplaced c = first_place c.as_slice-pieces.ensures (c.in_default.ensures.none refl) c.in-Some-first_misplaced.ensures.some

pub returns-in-Some-2 : goal.returns-in-Some-2
returns-in-Some-2 c = first_machine c.as_slice-pieces.ensures (c.in_default.ensures.none refl) (c.in_default-first_misplaced.ensures.none refl)
    (subst (λ r. IfSome r (λ pair. IsFirstOverlap (λ p. p.machine) c.as_slice-pieces.result.now pair.0 pair.1)) c.in-Some-2.is c.in_ok-first.ensures.some)

pub returns-in-Some-3 : goal.returns-in-Some-3
returns-in-Some-3 c = first_job c.as_slice-pieces.ensures (c.in_default.ensures.none refl) (c.in_default-first_misplaced.ensures.none refl)
    (c.in_ok-first.ensures.none (none_is _ c.in_default-2.is))
    (subst (λ r. IfSome r (λ pair. IsFirstOverlap (λ p. p.job) c.as_slice-pieces.result.now pair.0 pair.1)) c.in-Some-3.is c.in_ok-first-2.ensures.some)

pub first_early-requires-clause-small : goal.first_early-requires-clause-small
first_early-requires-clause-small c =
    subst (AreSmallReleases c.args.inst.now) (sym (to_z-of_z w128 c.args.s.now.unit (search rules))) (small_releases c.args.inst.now c.args.s.now c.requires.inner c.requires.within)

pub returns-in-Some-first_early : goal.returns-in-Some-first_early
returns-in-Some-first_early c = first_release c.as_slice-pieces.ensures (c.in_default.ensures.none refl) (c.in_default-first_misplaced.ensures.none refl)
    (c.in_ok-first.ensures.none (none_is _ c.in_default-2.is)) (c.in_ok-first-2.ensures.none (none_is _ c.in_default-3.is))
    (to_z-of_z w128 c.args.s.now.unit (search rules)) c.in-Some-first_early.ensures.some

pub returns-in-Some-swept_arc : goal.returns-in-Some-swept_arc
returns-in-Some-swept_arc c = first_arc c.as_slice-pieces.ensures (c.in_default.ensures.none refl) (c.in_default-first_misplaced.ensures.none refl)
    (c.in_ok-first.ensures.none (none_is _ c.in_default-2.is)) (c.in_ok-first-2.ensures.none (none_is _ c.in_default-3.is))
    (to_z-of_z w128 c.args.s.now.unit (search rules)) (c.in_default-first_early.ensures.none refl) c.as_slice.ensures c.in-Some-swept_arc.ensures.some

pub returns-in-Some-4 : goal.returns-in-Some-4
returns-in-Some-4 c = first_route c.as_slice-pieces.ensures (c.in_default.ensures.none refl) (c.in_default-first_misplaced.ensures.none refl)
    (c.in_ok-first.ensures.none (none_is _ c.in_default-2.is)) (c.in_ok-first-2.ensures.none (none_is _ c.in_default-3.is)) (to_z-of_z w128 c.args.s.now.unit (search rules))
    (c.in_default-first_early.ensures.none refl) c.as_slice.ensures (c.in_default-swept_arc.ensures.none refl)
    (subst (λ r. IfSome r (λ at. HasRoutes c.args.inst.now × IsFirstOutOfRoute c.args.inst.now c.as_slice-pieces.result.now at.0 at.1)) c.in-Some-4.is c.in_ok-job.ensures.some)

pub swept_work-requires-clause-small : goal.swept_work-requires-clause-small
swept_work-requires-clause-small c =
    subst (AreSmallTimes c.args.inst.now) (sym (to_z-of_z w128 c.args.s.now.unit (search rules))) (small_times c.args.inst.now c.args.s.now c.requires.inner c.requires.within)

pub returns-in-Some-5 : goal.returns-in-Some-5
returns-in-Some-5 c = first_work c.as_slice-pieces.ensures (c.in_default.ensures.none refl) (c.in_default-first_misplaced.ensures.none refl)
    (c.in_ok-first.ensures.none (none_is _ c.in_default-2.is)) (c.in_ok-first-2.ensures.none (none_is _ c.in_default-3.is)) (to_z-of_z w128 c.args.s.now.unit (search rules))
    (c.in_default-first_early.ensures.none refl) c.as_slice.ensures (c.in_default-swept_arc.ensures.none refl) (c.in_ok-job.ensures.none (none_is _ c.in_default-4.is))
    (subst (λ r. IfSome r (λ at. IsFirstUnworked c.args.inst.now (to_z w128 (of_z w128 c.args.s.now.unit)) c.as_slice-pieces.result.now at.0 at.1)) c.in-Some-5.is c.in_ok-job-2.ensures.some)

pub returns-in-None : goal.returns-in-None
returns-in-None c = none_broken c.as_slice-pieces.ensures (c.in_default.ensures.none refl) (c.in_default-first_misplaced.ensures.none refl)
    (c.in_ok-first.ensures.none (none_is _ c.in_default-2.is)) (c.in_ok-first-2.ensures.none (none_is _ c.in_default-3.is)) (to_z-of_z w128 c.args.s.now.unit (search rules))
    (c.in_default-first_early.ensures.none refl) c.as_slice.ensures (c.in_default-swept_arc.ensures.none refl) (c.in_ok-job.ensures.none (none_is _ c.in_default-4.is))
    (c.in_ok-job-2.ensures.none (none_is _ c.in-None.is)) c.requires.within

few_arcs : (o : Order) (arcs : List Arc) → HasArcs o arcs → length arcs ≤ MOST_ARCS
few_arcs Free arcs h = omega (arith, ap length h)
few_arcs _ arcs h = h

pub first_early-requires-clause-jobs : goal.first_early-requires-clause-jobs
first_early-requires-clause-jobs c = λ k d l. (c.in_default-first_misplaced.ensures.none refl k d l).job

pub swept_arc-requires : goal.swept_arc-requires
swept_arc-requires c = record {
  few = subst (λ arcs. length arcs ≤ MOST_ARCS) (sym c.as_slice.ensures) (few_arcs c.args.inst.now.class.order c.args.inst.now.arcs c.requires.inner.conditions.arcs);
  ends = subst (All (λ a. (a.before < MOST_JOBS) × (a.after < MOST_JOBS))) (sym c.as_slice.ensures)
      (λ k d l. let e = c.requires.inner.conditions.ends k d l in (omega (arith, e.0, c.requires.inner.conditions.few), omega (arith, e.1, c.requires.inner.conditions.few)));
  jobs = λ k d l. omega (arith, (c.in_default-first_misplaced.ensures.none refl k d l).job, c.requires.inner.conditions.few);
  moments = subst (All (λ p. IsMoment p.from × IsMoment p.to)) (sym c.as_slice-pieces.ensures) c.requires.within.moments;
}

pub swept_route-requires : goal.swept_route-requires
swept_route-requires c = record {
  inner = c.requires.inner;
  places = c.in_default-first_misplaced.ensures.none refl;
  moments = subst (All (λ p. IsMoment p.from × IsMoment p.to)) (sym c.as_slice-pieces.ensures) c.requires.within.moments;
}

pub swept_work-requires-clause-measured : goal.swept_work-requires-clause-measured
swept_work-requires-clause-measured c = measurable c.args.inst.now c.args.s.now _ c.as_slice-pieces.ensures c.requires.inner c.requires.decided c.requires.within
    (c.in_default-first_misplaced.ensures.none refl)
