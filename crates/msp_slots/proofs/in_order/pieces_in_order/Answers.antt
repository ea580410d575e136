use Rattle.std.proofs.Common.{IsPermutation, sym, subst, subst₂, rules}
use Rattle.std.specs.List.Sorted.{IsNonDecreasingBy}
use Rattle.msp_instance.specs.declared.Arc.{Arc}
use Rattle.msp_slots.proofs.Progress.{IsOrdered-from}
use Rattle.msp_slots.proofs.Listed.{inside_shown, ends_sorted, slot_smaller, slot_done, start_at, done_at}
use Rattle.msp_slots.proofs.in_order.pieces_in_order.Goals as goal

pub loop-alloc-init : goal.loop-alloc-init
loop-alloc-init c = start_at c.args.inst.now c.args.order.items c.new-pieces.result (IsOrdered-from c.args.inst.now c.requires.inner) c.new-pieces.ensures c.requires.all

pub next_slot-requires-clause-ends : goal.next_slot-requires-clause-ends
next_slot-requires-clause-ends c =
    ends_sorted c.args.inst.now c.as_slice-in-loop-alloc.result.now c.requires.inner (subst₂ IsPermutation c.as_slice.ensures (sym c.as_slice-in-loop-alloc.ensures.value) c.in_ok-sorted.ensures.same)

pub next_slot-requires-clause-sorted : goal.next_slot-requires-clause-sorted
next_slot-requires-clause-sorted c = subst (IsNonDecreasingBy (λ (a : Arc). a.after)) (sym c.as_slice-in-loop-alloc.ensures.value) c.in_ok-sorted.ensures.sorted

pub next_slot-requires-clause-inside : goal.next_slot-requires-clause-inside
next_slot-requires-clause-inside c = inside_shown c.args.inst.now c.args.order.items c.loop-alloc.moment c.loop-alloc.pieces c.loop-alloc.left.items
    c.as_slice-in-loop-alloc-2.result.now c.requires.inner.conditions.few c.as_slice-in-loop-alloc-2.ensures.value c.loop-alloc.invariant

pub loop-alloc-smaller : goal.loop-alloc-smaller
loop-alloc-smaller c =
    slot_smaller c.args.inst.now c.args.order.items (IsOrdered-from c.args.inst.now c.requires.inner) c.loop-alloc.moment c.loop-alloc.pieces c.put_pieces.new.pieces
    c.loop-alloc.left.items c.as_slice-in-loop-alloc-2.result.now c.in_ok-taken.field-0.taken.items c.as_slice-in-loop-alloc-3.result.now c.in_ok-taken.field-0.rest.items
    c.as_slice-in-loop-alloc.result.now (subst₂ IsPermutation c.as_slice.ensures (sym c.as_slice-in-loop-alloc.ensures.value) c.in_ok-sorted.ensures.same)
    c.as_slice-in-loop-alloc-2.ensures.value c.as_slice-in-loop-alloc-3.ensures.value c.in_ok-taken.ensures (search rules) c.loop-alloc.invariant

pub loop-alloc-preserved : goal.loop-alloc-preserved
loop-alloc-preserved c =
    slot_done c.args.inst.now c.args.order.items (IsOrdered-from c.args.inst.now c.requires.inner) c.loop-alloc.moment c.loop-alloc.pieces c.put_pieces.new.pieces
    c.loop-alloc.left.items c.as_slice-in-loop-alloc-2.result.now c.in_ok-taken.field-0.taken.items c.as_slice-in-loop-alloc-3.result.now c.in_ok-taken.field-0.rest.items
    c.as_slice-in-loop-alloc.result.now (subst₂ IsPermutation c.as_slice.ensures (sym c.as_slice-in-loop-alloc.ensures.value) c.in_ok-sorted.ensures.same)
    c.as_slice-in-loop-alloc-2.ensures.value c.as_slice-in-loop-alloc-3.ensures.value c.in_ok-taken.ensures (search rules) c.loop-alloc.invariant c.in_ok-put_pieces.ensures

pub returns : goal.returns
returns c = done_at c.args.inst.now c.args.order.items c.loop-alloc.moment c.loop-alloc.pieces c.loop-alloc.left.items (search rules) c.loop-alloc.invariant
