use Rattle.std.proofs.Common.{refl, arith}
use Rattle.msp_instance.proofs.PathBitLemmas.{IsFilling-start, passed_before, passed_after, passed_wide, passed_apart, IsFilling-next, HasPathBits-end}
use Rattle.msp_instance.proofs.path_bits.fill.Goals as goal

pub loop-done-init : goal.loop-done-init
loop-done-init c = IsFilling-start c.args.order.now c.args.sorted.now c.args.width c.args.words.now c.requires.len c.requires.none

pub follow_all-requires-clause-before : goal.follow_all-requires-clause-before
follow_all-requires-clause-before c = passed_before c.args.order.now c.args.sorted.now c.args.width
    c.loop-done.words c.loop-done.done _ c.leaving_of.result.now c.requires.order c.requires.wide c.loop-done.invariant (omega arith) refl c.leaving_of.ensures

pub follow_all-requires-clause-after : goal.follow_all-requires-clause-after
follow_all-requires-clause-after c = passed_after c.args.order.now c.args.sorted.now c.args.width
    c.loop-done.words c.loop-done.done _ c.leaving_of.result.now c.requires.order c.requires.wide c.loop-done.invariant (omega arith) refl c.leaving_of.ensures

pub follow_all-requires-clause-wide : goal.follow_all-requires-clause-wide
follow_all-requires-clause-wide c = passed_wide c.args.order.now c.args.sorted.now c.args.width
    c.loop-done.words c.loop-done.done _ c.leaving_of.result.now c.requires.order c.requires.wide c.loop-done.invariant (omega arith) refl c.leaving_of.ensures

pub follow_all-requires-clause-apart : goal.follow_all-requires-clause-apart
follow_all-requires-clause-apart c = passed_apart c.args.order.now c.args.sorted.now c.args.width
    c.loop-done.words c.loop-done.done _ c.leaving_of.result.now c.requires.order c.requires.wide c.loop-done.invariant (omega arith) refl c.leaving_of.ensures

pub loop-done-preserved : goal.loop-done-preserved
loop-done-preserved c = IsFilling-next c.args.order.now c.args.sorted.now c.args.width c.loop-done.words c.loop-done.done _ c.leaving_of.result.now
    c.requires.order c.requires.wide c.loop-done.invariant (omega arith) refl c.leaving_of.ensures c.follow_all.new.words c.follow_all.ensures

pub returns : goal.returns
returns c = HasPathBits-end c.args.order.now c.args.sorted.now c.args.width c.loop-done.words c.loop-done.done c.requires.order c.requires.wide (omega arith) c.loop-done.invariant
