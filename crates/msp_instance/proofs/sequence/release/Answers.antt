use Rattle.std.proofs.Common.{◌≡◌, ◌<◌, ◌+◌, ℕ, length, slice_index, refl, subst}
use Rattle.std.proofs.lemmas.List.{take_all}
use Rattle.msp_instance.specs.Conditions.{entering}
use Rattle.msp_instance.proofs.OrderLemmas.{IsReleasing-start, IsReleasing-some, IsReleasing-more}
use Rattle.msp_instance.proofs.sequence.release.Goals as goal

pub loop-a-init : goal.loop-a-init
loop-a-init c = IsReleasing-start (length c.args.counts.now) c.args.counts.now c.args.order.now.items refl c.requires.listing

pub pass-requires-clause-some : goal.pass-requires-clause-some
pass-requires-clause-some c =
    IsReleasing-some (length c.args.counts.now) c.args.leaving.now c.loop-a.a-index _ c.args.counts.now c.args.order.now.items c.loop-a.counts c.loop-a.order.items c.loop-a-test.true
    (c.requires.ends c.loop-a.a-index _ c.loop-a-test.true) c.requires.enough c.loop-a.invariant

pub loop-a-preserved : goal.loop-a-preserved
loop-a-preserved c =
    let n = length c.args.counts.now in
    let xs = c.args.leaving.now in
    let inside = c.requires.ends c.loop-a.a-index _ c.loop-a-test.true in
    IsReleasing-more n xs c.loop-a.a-index _ c.args.counts.now c.args.order.now.items c.loop-a.counts c.loop-a.order.items _ _ c.loop-a-test.true inside
    (IsReleasing-some n xs c.loop-a.a-index _ c.args.counts.now c.args.order.now.items c.loop-a.counts c.loop-a.order.items c.loop-a-test.true inside c.requires.enough c.loop-a.invariant)
    c.in_ok-pass.ensures.counts c.in_ok-pass.ensures.order c.loop-a.invariant

pub returns-clause-counts : goal.returns-clause-counts
returns-clause-counts c =
    subst (λ l. (k : ℕ) → k < length c.args.counts.now → slice_index c.loop-a.counts k + entering l k ≡ slice_index c.args.counts.now k)
    (take_all c.loop-a.a-index c.args.leaving.now c.loop-a-test.false) c.loop-a.invariant.each
