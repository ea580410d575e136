use Rattle.std.proofs.Common.{arith}
use Rattle.msp_instance.proofs.OrderLemmas.{IsPassing-begin, IsPassing-ends, IsPassing-covers, IsPassing-step, IsPassing-smaller, IsLongestOrder-end}
use Rattle.msp_instance.proofs.sequence.longest_order.Goals as goal

pub loop-done-init : goal.loop-done-init
loop-done-init c = IsPassing-begin c.args.jobs c.args.sorted.now c.in_ok-entering.entering.items c.as_slice.result.now c.as_mut_slice-counts.result.now
    c.in_ok-order.order.items c.in_ok-entering.ensures.len c.in_ok-entering.ensures.each c.as_slice.ensures.value c.as_mut_slice-counts.ensures.value c.in_ok-order.ensures

pub release-requires-clause-ends : goal.release-requires-clause-ends
release-requires-clause-ends c = IsPassing-ends c.args.jobs c.args.sorted.now c.loop-done.counts c.loop-done.order.items c.loop-done.done
    c.index.result.now c.leaving_of-leaving.result.now c.loop-done.invariant (omega arith) c.index.ensures c.leaving_of-leaving.ensures c.requires.ends

pub release-requires-clause-enough : goal.release-requires-clause-enough
release-requires-clause-enough c = IsPassing-covers c.args.jobs c.args.sorted.now c.loop-done.counts c.loop-done.order.items
    c.loop-done.done c.index.result.now c.leaving_of-leaving.result.now c.loop-done.invariant (omega arith) c.index.ensures c.leaving_of-leaving.ensures

pub loop-done-smaller : goal.loop-done-smaller
loop-done-smaller c = IsPassing-smaller c.args.jobs c.args.sorted.now c.loop-done.counts c.loop-done.order.items
    c.loop-done.done c.index.result.now c.leaving_of-leaving.result.now c.loop-done.invariant (omega arith) c.index.ensures c.leaving_of-leaving.ensures

pub loop-done-preserved : goal.loop-done-preserved
loop-done-preserved c =
    IsPassing-step c.args.jobs c.args.sorted.now c.loop-done.counts c.loop-done.order.items c.loop-done.done c.index.result.now c.leaving_of-leaving.result.now c.loop-done.invariant
    (omega arith) c.index.ensures c.leaving_of-leaving.ensures
    c.release.new.counts c.release.new.order.items c.release.auto.counts c.in_ok-release.ensures.counts c.in_ok-release.ensures.listing c.in_ok-release.ensures.kept

pub returns : goal.returns
returns c = IsLongestOrder-end c.args.jobs c.args.sorted.now c.loop-done.counts c.loop-done.order.items c.loop-done.done c.loop-done.invariant (omega arith)
