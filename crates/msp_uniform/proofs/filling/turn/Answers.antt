use Rattle.std.proofs.Common.{◌-◌, ◌≤◌, inl, refl, sym, subst, All, length, true, arith}
use Rattle.msp_class.specs.declared.sizes.TheConstants.{GREATEST_SPEED}
use Rattle.msp_uniform.specs.Segments.{at, gain_at, amount, IsSegment, StopsAt, greatest_length}
use Rattle.msp_uniform.proofs.TurnNeeds.{difference_some, difference_small, gain_enough, lengths_short, fine_machines, fine_places, fine_short, fine_gains, gain_short}
use Rattle.msp_uniform.proofs.filling.turn.Goals as goal

pub place_for-place-requires-clause-short : goal.place_for-place-requires-clause-short
place_for-place-requires-clause-short c = subst (λ ys. amount (λ _. 1) ys ≤ greatest_length) (sym c.as_slice-coarse.ensures.value) (omega (arith, c.requires.short 1 (inl refl)))

pub work_of-requires-clause-short : goal.work_of-requires-clause-short
work_of-requires-clause-short c = subst (λ ys. amount (λ _. 1) ys ≤ greatest_length) (sym c.as_slice-coarse.ensures.value) (omega (arith, c.requires.short 1 (inl refl)))

pub last_gain-factor-requires-clause-short : goal.last_gain-factor-requires-clause-short
last_gain-factor-requires-clause-short c = subst (λ ys. amount (λ _. 1) ys ≤ greatest_length) (sym c.as_slice-coarse.ensures.value) (omega (arith, c.requires.short 1 (inl refl)))

pub last_gain-factor-requires-clause-enough : goal.last_gain-factor-requires-clause-enough
last_gain-factor-requires-clause-enough c = gain_enough c.args.speeds.now c.args.places _ c.as_slice-coarse.result.now
    (subst (All (IsSegment (length c.args.speeds.now) c.requires.each.0 (at c.args.speeds.now) c.args.places)) (sym c.as_slice-coarse.ensures.value) c.requires.each.1)
    _ _ _ c.place_for-place.ensures.inside c.place_for-place.ensures.enough c.work_of.ensures

pub scaled-requires : goal.scaled-requires
scaled-requires c = lengths_short c.args.speeds.now c.args.places _ c.args.segments.items c.requires.each.1 _ (c.requires.short _ c.last_gain-factor.ensures.difference)

pub overflow_mul-gain : goal.overflow_mul-gain
overflow_mul-gain c =
    let short = gain_short c.args.speeds.now c.args.places _ c.args.segments.items c.args.work c.work_of.result c.last_gain-factor.result c.requires.each.1 c.requires.some c.requires.speeds
    (omega (arith, c.requires.short 1 (inl refl))) c.requires.first (difference_small c.args.speeds.now GREATEST_SPEED _ (omega arith) c.requires.speeds c.last_gain-factor.ensures.difference) in
    omega (arith, short)

pub lay_over_all-requires-clause-machines : goal.lay_over_all-requires-clause-machines
lay_over_all-requires-clause-machines c = fine_machines c.args.speeds.now c.args.places _ c.args.segments.items c.requires.each.1
    _ (c.requires.short _ c.last_gain-factor.ensures.difference) _ (difference_some _ _ c.last_gain-factor.ensures.difference) c.in_ok-fine.ensures

pub lay_over_all-requires-clause-places : goal.lay_over_all-requires-clause-places
lay_over_all-requires-clause-places c = fine_places c.args.speeds.now c.args.places _ c.args.segments.items c.requires.each.1 _ (c.requires.short _ c.last_gain-factor.ensures.difference)
    _ (difference_some _ _ c.last_gain-factor.ensures.difference) c.in_ok-fine.ensures _ c.place_for-place.ensures.inside

pub lay_over_all-requires-clause-short : goal.lay_over_all-requires-clause-short
lay_over_all-requires-clause-short c = fine_short c.args.speeds.now c.args.places _ c.args.segments.items c.requires.each.1 _ (c.requires.short _ c.last_gain-factor.ensures.difference)
    _ (difference_some _ _ c.last_gain-factor.ensures.difference) c.in_ok-fine.ensures

pub lay_over_all-requires-clause-gains : goal.lay_over_all-requires-clause-gains
lay_over_all-requires-clause-gains c =
    let stops = subst (λ ys. StopsAt (gain_at true (at c.args.speeds.now) c.place_for-place.result) (c.args.work - c.work_of.result) ys c.last_gain-factor.result)
    c.as_slice-coarse.ensures.value c.last_gain-factor.ensures.stops in
    fine_gains c.args.speeds.now c.args.places _ c.args.segments.items c.requires.each.1 _ (c.requires.short _ c.last_gain-factor.ensures.difference)
    _ (difference_some _ _ c.last_gain-factor.ensures.difference) c.in_ok-fine.ensures _ _ stops
