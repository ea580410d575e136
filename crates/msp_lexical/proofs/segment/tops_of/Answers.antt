use Rattle.std.proofs.Common.{◌≡◌, ◌+◌, ◌-◌, slice_index, sym, subst, arith}
use Rattle.msp_lexical.specs.Slots.{first_in, second_in}
use Rattle.msp_lexical.proofs.TopSteps.{IsTopping, IsTopping-next}
use Rattle.msp_lexical.proofs.segment.tops_of.Goals as goal

pub loop-slot-preserved : goal.loop-slot-preserved
loop-slot-preserved c =
    let l = c.loop-slot in
    let back : l.slot - 1 + 1 ≡ l.slot = omega (arith, c.loop-slot-test.true) in
    IsTopping-next _ _ _ _ _ c.requires.small c.requires.slots (l.slot - 1) _ _ _ (omega (arith, back, l.invariant.inside)) c.top_of-next.ensures
    (subst (λ s. IsTopping c.args.jobs c.args.count (slice_index c.args.labels.now) (first_in c.args.seats.now) (second_in c.args.seats.now) s l.next l.tops) (sym back) l.invariant)
