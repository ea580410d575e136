use Rattle.std.proofs.Common.{◌+◌, ◌-◌, ◌*◌, length, true, ap, subst, sym, arith}
use Rattle.msp_uniform.specs.Segments.{at, gain_at, HasPlaces, IsSeeking}
use Rattle.msp_uniform.proofs.ScaledFacts.{IsSeeking-start, IsSeeking-next, StopsAt-here, StopsAt-end, IsDifference-here}
use Rattle.msp_uniform.proofs.turning.last_gain.Goals as goal

pub loop-segment-init : goal.loop-segment-init
loop-segment-init c = IsSeeking-start _ _ _

pub returns-then-left-whole-clause-stops : goal.returns-then-left-whole-clause-stops
returns-then-left-whole-clause-stops c =
    let more = ap (λ m. c.segment-item.result.length * m) c.gain_of-more.ensures.value in
    StopsAt-here _ _ _ _ _ c.segment-item.result _ c.loop-segment-test.true c.segment-item.is (omega (arith, c.if-left-whole.true, more)) c.gain_of-more.ensures.value c.loop-segment.invariant

pub returns-then-left-whole-clause-difference : goal.returns-then-left-whole-clause-difference
returns-then-left-whole-clause-difference c =
    let places =
    subst (HasPlaces (length c.args.speeds.now) true c.args.place) (sym c.segment-item.is) (c.requires.places c.loop-segment.segment-index c.segment-item.result c.loop-segment-test.true) in
    IsDifference-here c.args.speeds.now c.args.place c.loop-segment.left c.segment-item.result _ places c.gain_of-more.ensures.value c.if-left-whole.true

pub loop-segment-preserved : goal.loop-segment-preserved
loop-segment-preserved c =
    let more = ap (λ m. c.segment-item.result.length * m) c.gain_of-more.ensures.value in
    subst (λ n. IsSeeking (gain_at true (at c.args.speeds.now) c.args.place) c.args.gain (c.loop-segment.left - n) (c.loop-segment.segment-index + 1) c.args.segments.now) (sym more)
    (IsSeeking-next _ _ _ _ _ c.segment-item.result c.loop-segment-test.true c.segment-item.is (omega (arith, c.if-left-whole.false, more)) c.loop-segment.invariant)

pub returns-clause-stops : goal.returns-clause-stops
returns-clause-stops c = StopsAt-end _ _ _ _ _ (omega (arith, c.loop-segment-test.false)) c.requires.enough c.loop-segment.invariant
