use Rattle.std.proofs.Common.{◌≡◌, ◌≤◌, false, length, arith}
use Rattle.msp_uniform.specs.Segments.{HasPlaces, greatest_length}
use Rattle.msp_uniform.proofs.LayingFacts.{IsLaying-start, laying_next, laying_gains, laying_fewer, IsLaying-next, IsLaying-none, IsLaying-end}
use Rattle.msp_uniform.proofs.laying.lay.Goals as goal

pub late-init : goal.late-init
late-init c = IsLaying-start _ _ _ _ _ _ c.requires.late.gains

pub lay_first-requires-clause-machines : goal.lay_first-requires-clause-machines
lay_first-requires-clause-machines c =
    laying_next _ _ _ _ _ _ _ _ _ _ _ c.in-Some.ensures.items (omega (arith, c.late-test.true)) c.late.invariant (λ x. length x.body.value.jobs ≡ length c.args.speeds.now) c.requires.late.machines

pub lay_first-requires-clause-places : goal.lay_first-requires-clause-places
lay_first-requires-clause-places c =
    laying_next _ _ _ _ _ _ _ _ _ _ _ c.in-Some.ensures.items (omega (arith, c.late-test.true)) c.late.invariant (HasPlaces (length c.args.speeds.now) false c.args.place) c.requires.late.places

pub lay_first-requires-clause-short : goal.lay_first-requires-clause-short
lay_first-requires-clause-short c = laying_next _ _ _ _ _ _ _ _ _ _ _ c.in-Some.ensures.items (omega (arith, c.late-test.true)) c.late.invariant (λ x. x.length ≤ greatest_length) c.requires.late.short

pub lay_first-requires-clause-gains : goal.lay_first-requires-clause-gains
lay_first-requires-clause-gains c = laying_gains _ _ _ _ _ _ _ _ _ _ _ c.in-Some.ensures.items (omega (arith, c.late-test.true)) c.late.invariant

pub late-smaller : goal.late-smaller
late-smaller c = laying_fewer _ _ _ _ _ _ _ _ _ _ _ c.in-Some.ensures.items (omega (arith, c.late-test.true)) c.late.invariant _ _ _ c.in_ok-left-in-Some.ensures

pub late-preserved : goal.late-preserved
late-preserved c = IsLaying-next _ _ _ _ _ _ _ _ _ _ _ c.in-Some.ensures.items (omega (arith, c.late-test.true)) c.late.invariant _ _ _ c.in_ok-left-in-Some.ensures

pub returns-in-None : goal.returns-in-None
returns-in-None c = IsLaying-none _ _ _ _ _ _ _ _ _ _ c.in-None.ensures.items c.in-None.ensures.rest c.late.invariant

pub returns : goal.returns
returns c = IsLaying-end _ _ _ _ _ _ _ _ _ (omega (arith, c.late-test.false)) c.late.invariant
