use Rattle.std.proofs.Common.{false, length, arith}
use Rattle.msp_uniform.specs.Segments.{at, rate_at, HasPlaces}
use Rattle.msp_uniform.proofs.ScaledFacts.{two_parts, amount-parts, place_short}
use Rattle.msp_uniform.proofs.turning.work_in.Goals as goal

pub work_of-requires-2-clause-places : goal.work_of-requires-2-clause-places
work_of-requires-2-clause-places c = (two_parts (HasPlaces (length c.args.speeds.now) false c.args.place) _ _ _ c.as_slices.ensures.items c.requires.places).1

pub overflow_add-result : goal.overflow_add-result
overflow_add-result c =
    let both = amount-parts (rate_at (at c.args.speeds.now) c.args.place) c.args.segments.now.items c.as_slices.result.0.now c.as_slices.result.1.now c.as_slices.ensures.items in
    let short = place_short c.args.speeds.now c.args.place c.args.segments.now.items c.requires.speeds c.requires.places c.requires.short in
    omega (arith, both, short, c.work_of.ensures, c.work_of-2.ensures)
