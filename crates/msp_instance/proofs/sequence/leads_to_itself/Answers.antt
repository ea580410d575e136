use Rattle.std.proofs.Common.{false, sym, subst, arith, slice_index_or}
use Rattle.msp_instance.specs.Listing.{IsListing}
use Rattle.msp_instance.proofs.SearchLemmas.{length-flags, IsListing-flags, ends_inside, IsSearch-begin, IsSearch-step, IsSearch-smaller, IsSearch-end}
use Rattle.msp_instance.proofs.sequence.leads_to_itself.Goals as goal

pub meet-requires-clause-ends : goal.meet-requires-clause-ends
meet-requires-clause-ends c =
    let whole = length-flags c.args.jobs c.in_ok-flags.flags.items c.as_mut_slice-seen.result.now c.as_mut_slice-seen.ensures.value (c.in_ok-flags.ensures.items_if_clones_equal (λ y q. q)) in
    ends_inside c.args.jobs c.args.sorted.now c.leaving_of.result.now c.args.start _ c.leaving_of.ensures whole c.requires.ends

pub meet-requires-clause-listing : goal.meet-requires-clause-listing
meet-requires-clause-listing c =
    IsListing-flags c.args.jobs c.in_ok-flags.flags.items c.as_mut_slice-seen.result.now _ c.as_mut_slice-seen.ensures.value (c.in_ok-flags.ensures.items_if_clones_equal (λ y q. q)) c.new-found.ensures.items

pub loop-done-init : goal.loop-done-init
loop-done-init c =
    let whole = length-flags c.args.jobs c.in_ok-flags.flags.items c.as_mut_slice-seen.result.now c.as_mut_slice-seen.ensures.value (c.in_ok-flags.ensures.items_if_clones_equal (λ y q. q)) in
    IsSearch-begin c.args.jobs c.args.sorted.now c.args.start c.leaving_of.result.now c.as_mut_slice-seen.result.now c.meet.new.seen c.new-found.result.items c.meet.new.found.items
    c.leaving_of.ensures whole c.meet.auto.seen c.new-found.ensures.items c.in_ok-meet.ensures.listing c.in_ok-meet.ensures.met c.in_ok-meet.ensures.only

pub meet-requires-in-loop-done-clause-ends : goal.meet-requires-in-loop-done-clause-ends
meet-requires-in-loop-done-clause-ends c =
    ends_inside c.args.jobs c.args.sorted.now c.leaving_of-leaving.result.now c.index.result.now _ c.leaving_of-leaving.ensures c.loop-done.invariant.whole c.requires.ends

pub loop-done-smaller : goal.loop-done-smaller
loop-done-smaller c = IsSearch-smaller c.args.jobs c.args.sorted.now c.args.start c.loop-done.seen c.loop-done.found.items c.loop-done.done c.loop-done.invariant (omega arith)

pub loop-done-preserved : goal.loop-done-preserved
loop-done-preserved c =
    IsSearch-step c.args.jobs c.args.sorted.now c.args.start c.loop-done.seen c.loop-done.found.items c.loop-done.done c.index.result.now c.leaving_of-leaving.result.now
    c.meet-in-loop-done.new.seen c.meet-in-loop-done.new.found.items c.loop-done.invariant (omega arith) c.index.ensures c.leaving_of-leaving.ensures c.meet-in-loop-done.auto.seen
    c.in_ok-meet-2.ensures.listing c.in_ok-meet-2.ensures.kept c.in_ok-meet-2.ensures.met c.in_ok-meet-2.ensures.only

pub returns : goal.returns
returns c = IsSearch-end c.args.jobs c.args.sorted.now c.args.start c.loop-done.seen c.loop-done.found.items c.loop-done.done c.args.start c.loop-done.invariant (omega arith) c.requires.start

pub meet-requires-in-loop-done-clause-listing : goal.meet-requires-in-loop-done-clause-listing
meet-requires-in-loop-done-clause-listing c =
    subst (λ m. IsListing m (λ k. slice_index_or c.loop-done.seen k false) c.loop-done.found.items) (sym c.loop-done.invariant.whole) c.loop-done.invariant.listing

pub bounds-seen-start : goal.bounds-seen-start
bounds-seen-start c = omega (arith, c.loop-done.invariant.whole, c.requires.start)
