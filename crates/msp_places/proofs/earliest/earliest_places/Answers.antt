use Rattle.std.proofs.Common.{◌≤◌, All, length, ap, sym, subst, subst₂, arith}
use Rattle.std.proofs.lemmas.Result.{IfOk-weaker}
use Rattle.msp_route.proofs.JobReads.{time_read}
use Rattle.msp_places.specs.Places.{AreEarliest}
use Rattle.msp_places.proofs.OwnPlaces.{speeds_of}
use Rattle.msp_places.proofs.PlaceFacts.{common_time_range, lengths_short, lengths_read}
use Rattle.msp_places.proofs.Turns.{AreShort}
use Rattle.msp_places.proofs.earliest.earliest_places.Goals as goal

pub lengths_of-requires-clause-speeds : goal.lengths_of-requires-clause-speeds
lengths_of-requires-clause-speeds c =
    subst (All (λ s. 1 ≤ s)) (sym c.as_slice.ensures) (λ k d l. ((speeds_of _ c.args.inst.now c.requires.kind c.requires.inner.conditions).1 k d l).0)

pub lengths_of-requires-clause-time : goal.lengths_of-requires-clause-time
lengths_of-requires-clause-time c =
    let i = c.args.inst.now in
    let time = time_read i _ 0 _ _ c.as_slice-jobs.ensures c.requires.inner.conditions.some c.index-jobs-0.is c.first_time-time.ensures in
    omega (arith, time, (common_time_range _ i c.requires.kind c.requires.times c.requires.inner.conditions).1)

pub returns : goal.returns
returns c =
    let i = c.args.inst.now in
    let time = time_read i _ 0 _ _ c.as_slice-jobs.ensures c.requires.inner.conditions.some c.index-jobs-0.is c.first_time-time.ensures in
    let lengths = lengths_read i c.args.unit _ _ _ _ c.as_slice.ensures time c.in_ok-lengths.ensures c.as_slice-2.ensures.value in
    IfOk-weaker c.places_by.result _ _ (λ places h. subst₂ (λ ls n. AreEarliest ls n places.items) lengths (ap length c.as_slice-jobs.ensures) h) c.places_by.ensures

pub places_by-requires-clause-lengths : goal.places_by-requires-clause-lengths
places_by-requires-clause-lengths c =
    let i = c.args.inst.now in
    let time = time_read i _ 0 _ _ c.as_slice-jobs.ensures c.requires.inner.conditions.some c.index-jobs-0.is c.first_time-time.ensures in
    subst AreShort (sym (lengths_read i c.args.unit _ _ _ _ c.as_slice.ensures time c.in_ok-lengths.ensures c.as_slice-2.ensures.value))
    (lengths_short i (speeds_of _ i c.requires.kind c.requires.inner.conditions)
    (common_time_range _ i c.requires.kind c.requires.times c.requires.inner.conditions) c.args.unit c.requires.unit c.requires.small)
