use Rattle.std.proofs.Common.{◌≡◌, ◌≤◌, true, ap, length, arith}
use Rattle.msp_uniform.specs.Segments.{HasPlaces, greatest_length}
use Rattle.msp_uniform.proofs.LayingFacts.{AreLaidUpTo-start, laid_next, laid_gains, AreLaidUpTo-next, AreLaidUpTo-end}
use Rattle.msp_uniform.proofs.laying.lay_over_all.Goals as goal

pub segments-init : goal.segments-init
segments-init c = AreLaidUpTo-start _ _ _ _ _ _ _ c.new-first.ensures.items c.new-second.ensures.items c.requires.gains

pub lay_both-requires-clause-machines : goal.lay_both-requires-clause-machines
lay_both-requires-clause-machines c = laid_next _ _ _ _ _ _ _ _ _ _ _ c.in-Some.ensures.items c.segments.invariant (λ x. length x.body.value.jobs ≡ length c.args.speeds.now) c.requires.machines

pub lay_both-requires-clause-places : goal.lay_both-requires-clause-places
lay_both-requires-clause-places c = laid_next _ _ _ _ _ _ _ _ _ _ _ c.in-Some.ensures.items c.segments.invariant (HasPlaces (length c.args.speeds.now) true c.args.place) c.requires.places

pub lay_both-requires-clause-short : goal.lay_both-requires-clause-short
lay_both-requires-clause-short c = laid_next _ _ _ _ _ _ _ _ _ _ _ c.in-Some.ensures.items c.segments.invariant (λ x. x.length ≤ greatest_length) c.requires.short

pub lay_both-requires-clause-gains : goal.lay_both-requires-clause-gains
lay_both-requires-clause-gains c = laid_gains _ _ _ _ _ _ _ _ _ _ _ c.in-Some.ensures.items c.segments.invariant

pub segments-smaller : goal.segments-smaller
segments-smaller c = let next = ap length c.in-Some.ensures.items in omega (arith, next)

pub segments-preserved : goal.segments-preserved
segments-preserved c = AreLaidUpTo-next _ _ _ _ _ _ _ _ _ _ _ c.in-Some.ensures.items c.segments.invariant _ _ _ c.in_ok-left.ensures

pub returns : goal.returns
returns c = AreLaidUpTo-end _ _ _ _ _ _ _ _ _ _ c.in_default.ensures.items c.in_default.ensures.rest c.segments.invariant
