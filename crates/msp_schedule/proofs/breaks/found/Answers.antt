use Rattle.std.proofs.Common.{All, refl, rules, sym, subst}
use Rattle.std.proofs.lemmas.Int.{to_z-of_z}
use Rattle.std.specs.Int.{w128}
use Rattle.msp_pieces.specs.Within.{IsMoment, AreSmallReleases, AreSmallTimes}
use Rattle.msp_pieces.proofs.costs.Small.{small_releases, small_times}
use Rattle.msp_schedule.proofs.judging.Deciding.{first_span, first_place, first_machine, first_job, first_release, first_arc, first_route, first_work, none_broken}
use Rattle.msp_schedule.proofs.judging.SweepFacts.{measurable}
use Rattle.msp_schedule.proofs.breaks.found.Goals as goal

pub returns-in-Some : goal.returns-in-Some
returns-in-Some c = first_span c.as_slice-pieces.ensures c.in-Some.ensures.some

pub returns-in-Some-first_misplaced : goal.returns-in-Some-first_misplaced
returns-in-Some-first_misplaced c = first_place c.as_slice-pieces.ensures (c.in_default.ensures.none refl) c.in-Some-first_misplaced.ensures.some

pub returns-in-Some-first_overlap : goal.returns-in-Some-first_overlap
returns-in-Some-first_overlap c = first_machine c.as_slice-pieces.ensures (c.in_default.ensures.none refl) (c.in_default-first_misplaced.ensures.none refl) c.in-Some-first_overlap.ensures.some

pub returns-in-Some-first_overlap-2 : goal.returns-in-Some-first_overlap-2
returns-in-Some-first_overlap-2 c = first_job c.as_slice-pieces.ensures (c.in_default.ensures.none refl) (c.in_default-first_misplaced.ensures.none refl)
    (c.in_default-first_overlap.ensures.none refl) c.in-Some-first_overlap-2.ensures.some

pub first_early-requires-clause-small : goal.first_early-requires-clause-small
first_early-requires-clause-small c =
    subst (AreSmallReleases c.args.inst.now) (sym (to_z-of_z w128 c.args.s.now.unit (search rules))) (small_releases c.args.inst.now c.args.s.now c.requires.inner c.requires.within)

pub first_work-requires-clause-small : goal.first_work-requires-clause-small
first_work-requires-clause-small c =
    subst (AreSmallTimes c.args.inst.now) (sym (to_z-of_z w128 c.args.s.now.unit (search rules))) (small_times c.args.inst.now c.args.s.now c.requires.inner c.requires.within)

pub returns-in-Some-first_early : goal.returns-in-Some-first_early
returns-in-Some-first_early c = first_release c.as_slice-pieces.ensures (c.in_default.ensures.none refl) (c.in_default-first_misplaced.ensures.none refl)
    (c.in_default-first_overlap.ensures.none refl) (c.in_default-first_overlap-2.ensures.none refl)
    (to_z-of_z w128 c.args.s.now.unit (search rules)) c.in-Some-first_early.ensures.some

pub returns-in-Some-first_arc : goal.returns-in-Some-first_arc
returns-in-Some-first_arc c = first_arc c.as_slice-pieces.ensures (c.in_default.ensures.none refl) (c.in_default-first_misplaced.ensures.none refl)
    (c.in_default-first_overlap.ensures.none refl) (c.in_default-first_overlap-2.ensures.none refl)
    (to_z-of_z w128 c.args.s.now.unit (search rules)) (c.in_default-first_early.ensures.none refl) c.as_slice.ensures c.in-Some-first_arc.ensures.some

pub returns-in-Some-first_out_of_route : goal.returns-in-Some-first_out_of_route
returns-in-Some-first_out_of_route c = first_route c.as_slice-pieces.ensures (c.in_default.ensures.none refl) (c.in_default-first_misplaced.ensures.none refl)
    (c.in_default-first_overlap.ensures.none refl) (c.in_default-first_overlap-2.ensures.none refl) (to_z-of_z w128 c.args.s.now.unit (search rules))
    (c.in_default-first_early.ensures.none refl) c.as_slice.ensures (c.in_default-first_arc.ensures.none refl) c.in-Some-first_out_of_route.ensures.some

pub returns-in-Some-first_work : goal.returns-in-Some-first_work
returns-in-Some-first_work c = first_work c.as_slice-pieces.ensures (c.in_default.ensures.none refl) (c.in_default-first_misplaced.ensures.none refl)
    (c.in_default-first_overlap.ensures.none refl) (c.in_default-first_overlap-2.ensures.none refl) (to_z-of_z w128 c.args.s.now.unit (search rules))
    (c.in_default-first_early.ensures.none refl) c.as_slice.ensures (c.in_default-first_arc.ensures.none refl) (c.in_default-first_out_of_route.ensures.none refl)
    c.in-Some-first_work.ensures.some

pub returns-in-None : goal.returns-in-None
returns-in-None c = none_broken c.as_slice-pieces.ensures (c.in_default.ensures.none refl) (c.in_default-first_misplaced.ensures.none refl)
    (c.in_default-first_overlap.ensures.none refl) (c.in_default-first_overlap-2.ensures.none refl) (to_z-of_z w128 c.args.s.now.unit (search rules))
    (c.in_default-first_early.ensures.none refl) c.as_slice.ensures (c.in_default-first_arc.ensures.none refl) (c.in_default-first_out_of_route.ensures.none refl)
    (c.in-None.ensures.none refl) c.requires.within

pub first_early-requires-clause-jobs : goal.first_early-requires-clause-jobs
first_early-requires-clause-jobs c = λ k d l. (c.in_default-first_misplaced.ensures.none refl k d l).job

pub first_work-requires-clause-measured : goal.first_work-requires-clause-measured
first_work-requires-clause-measured c = measurable c.args.inst.now c.args.s.now _ c.as_slice-pieces.ensures c.requires.inner c.requires.decided c.requires.within
    (c.in_default-first_misplaced.ensures.none refl)

pub first_out_of_route-requires : goal.first_out_of_route-requires
first_out_of_route-requires c = record {
  inner = c.requires.inner;
  places = c.in_default-first_misplaced.ensures.none refl;
  moments = subst (All (λ p. IsMoment p.from × IsMoment p.to)) (sym c.as_slice-pieces.ensures) c.requires.within.moments;
}
