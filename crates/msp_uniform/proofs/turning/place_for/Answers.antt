use Rattle.std.proofs.Common.{arith}
use Rattle.msp_uniform.specs.Segments.{at, rate_at, amount}
use Rattle.msp_uniform.proofs.ScaledFacts.{not_first, before_it}
use Rattle.msp_uniform.proofs.turning.place_for.Goals as goal

pub overflow_sub-place-in-places : goal.overflow_sub-place-in-places
overflow_sub-place-in-places c = not_first (λ k. amount (rate_at (at c.args.speeds.now) k) c.args.segments.now) c.places.place c.args.work c.places.invariant.less c.requires.first

pub returns-then-work_of-work-clause-less : goal.returns-then-work_of-work-clause-less
returns-then-work_of-work-clause-less c =
    let some = not_first (λ k. amount (rate_at (at c.args.speeds.now) k) c.args.segments.now) c.places.place c.args.work c.places.invariant.less c.requires.first in
    before_it (λ k. amount (rate_at (at c.args.speeds.now) k) c.args.segments.now) c.places.place c.args.work some c.places.invariant.less

pub places-smaller : goal.places-smaller
places-smaller c =
    let some = not_first (λ k. amount (rate_at (at c.args.speeds.now) k) c.args.segments.now) c.places.place c.args.work c.places.invariant.less c.requires.first in
    omega (arith, some)
