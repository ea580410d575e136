use Rattle.std.proofs.Common.{sym, subst, All, arith}
use Rattle.msp_instance.specs.Conditions.{IsSequence, GoesForward}
use Rattle.msp_instance.proofs.CycleLemmas.{sorted_ends, sorted_sequence, sorted_forward, sorted_cycle, sorted_fault}
use Rattle.msp_instance.proofs.sequence.forward.Goals as goal

pub longest_order-requires-clause-ends : goal.longest_order-requires-clause-ends
longest_order-requires-clause-ends c =
    sorted_ends c.args.inst.now c.as_slice.result.now c.in_ok-sorted.sorted.items c.as_slice-arcs.result.now
    c.len-jobs.result c.len-jobs.ensures c.as_slice.ensures c.in_ok-sorted.ensures.same c.as_slice-arcs.ensures.value c.requires.ends

pub returns-then-len-jobs-clause-sequence : goal.returns-then-len-jobs-clause-sequence
returns-then-len-jobs-clause-sequence c =
    subst (IsSequence c.args.inst.now) (sym c.from_vec.ensures)
    (sorted_sequence c.args.inst.now c.as_slice.result.now c.in_ok-sorted.sorted.items c.as_slice-arcs.result.now
    c.len-jobs.result c.len-jobs.ensures c.as_slice.ensures c.in_ok-sorted.ensures.same c.as_slice-arcs.ensures.value c.requires.ends
    c.in_ok-order.order.items c.in_ok-order.ensures (omega (arith, c.in_ok-order.order.ok, c.len.ensures, c.if-len-jobs.true)))

pub returns-then-len-jobs-clause-forward : goal.returns-then-len-jobs-clause-forward
returns-then-len-jobs-clause-forward c =
    subst (λ l. All (GoesForward l) c.args.inst.now.arcs) (sym c.from_vec.ensures)
    (sorted_forward c.args.inst.now c.as_slice.result.now c.in_ok-sorted.sorted.items c.as_slice-arcs.result.now
    c.len-jobs.result c.len-jobs.ensures c.as_slice.ensures c.in_ok-sorted.ensures.same c.as_slice-arcs.ensures.value c.requires.ends
    c.in_ok-order.order.items c.in_ok-order.ensures (omega (arith, c.in_ok-order.order.ok, c.len.ensures, c.if-len-jobs.true)))

pub least_on_cycle-requires-clause-ends : goal.least_on_cycle-requires-clause-ends
least_on_cycle-requires-clause-ends c =
    sorted_ends c.args.inst.now c.as_slice.result.now c.in_ok-sorted.sorted.items c.as_slice-arcs.result.now
    c.len-jobs.result c.len-jobs.ensures c.as_slice.ensures c.in_ok-sorted.ensures.same c.as_slice-arcs.ensures.value c.requires.ends

pub least_on_cycle-requires-clause-some : goal.least_on_cycle-requires-clause-some
least_on_cycle-requires-clause-some c =
    sorted_cycle c.args.inst.now c.as_slice.result.now c.in_ok-sorted.sorted.items c.as_slice-arcs.result.now
    c.len-jobs.result c.len-jobs.ensures c.as_slice.ensures c.in_ok-sorted.ensures.same c.as_slice-arcs.ensures.value c.requires.ends
    c.in_ok-order.order.items c.in_ok-order.ensures (omega (arith, c.in_ok-order.order.ok, c.len.ensures, c.if-len-jobs.false))

pub returns-clause-fault : goal.returns-clause-fault
returns-clause-fault c =
    sorted_fault c.args.inst.now c.as_slice.result.now c.in_ok-sorted.sorted.items c.as_slice-arcs.result.now
    c.len-jobs.result c.len-jobs.ensures c.as_slice.ensures c.in_ok-sorted.ensures.same c.as_slice-arcs.ensures.value c.requires.ends
    _ c.in_ok-job.ensures
