use Rattle.std.proofs.Common.{◌≡◌, ◌∙◌, List, ℕ, All, length, refl, ap, sym, subst}
use Rattle.msp_instance.specs.Conditions.{GoesForward}
use Rattle.msp_due.specs.Steps.{IsListed}
use Rattle.msp_due.proofs.DueSlots.{due_small}
use Rattle.msp_due.proofs.ListedSlots.{whole_slice, listed_at}
use Rattle.msp_due.proofs.listing.listed.Goals as goal

pub lower_all-requires-clause-forward : goal.lower_all-requires-clause-forward
lower_all-requires-clause-forward c = subst (λ (order : List ℕ). All (GoesForward order) c.args.inst.now.arcs) (sym c.as_slice.ensures) c.requires.ready.forward

pub lower_all-requires-clause-small : goal.lower_all-requires-clause-small
lower_all-requires-clause-small c =
    due_small c.args.inst.now c.args.bound.now c.in_ok-slots.slots.items c.as_mut_slice.result.now c.as_mut_slice.ensures.value c.in_ok-slots.ensures.whole c.in_ok-slots.ensures.slots

pub returns : goal.returns
returns c =
    let low = c.lower_all.new.slots in
    let whole = whole_slice c.in_ok-slots.slots.len (length low) low c.in_ok-slots.slots.items
    (c.lower_all.auto.slots ∙ c.as_mut_slice.ensures.len) refl (sym (ap length c.as_mut_slice.ensures.value) ∙ sym c.lower_all.auto.slots) in
    subst (λ xs. IsListed c.args.inst.now c.args.bound.now xs c.in_ok-pieces.pieces) (sym whole)
    (listed_at c.args.inst.now c.args.bound.now c.args.shared.now.paths c.args.shared.now.order c.in_ok-slots.slots.items c.as_mut_slice.result.now low c.as_slice-2.result.now
    c.in_ok-order.order.items c.in_ok-pieces.pieces c.requires.ready c.as_mut_slice.ensures.value c.in_ok-slots.ensures.whole c.in_ok-slots.ensures.slots
    c.lower_all.ensures.lowered c.lower_all.ensures.whole (c.as_slice-2.ensures.value ∙ whole) c.in_ok-order.ensures.rising c.in_ok-pieces.ensures)
