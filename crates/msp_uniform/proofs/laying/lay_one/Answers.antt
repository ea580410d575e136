use Rattle.std.proofs.Common.{[], ◌<◌, ◌*◌, refl, sym, slice_index_or, subst, arith}
use Rattle.msp_uniform.specs.Segments.{HasPlaces}
use Rattle.msp_uniform.proofs.LayingFacts.{IsOneLaid-whole, IsOneLaid-parted, must_divide, has_place}
use Rattle.msp_uniform.proofs.laying.lay_one.Goals as goal

pub taken-requires-clause-place : goal.taken-requires-clause-place
taken-requires-clause-place c = (has_place _ _ _ c.args.segment c.requires.places).0

pub taken-requires-clause-machine : goal.taken-requires-clause-machine
taken-requires-clause-machine c = omega (arith, (has_place _ _ _ c.args.segment c.requires.places).1, c.requires.machines)

pub returns-then-long-gain-clause-laid : goal.returns-then-long-gain-clause-laid
returns-then-long-gain-clause-laid c = IsOneLaid-whole _ _ _ _ _ _ _ _ _ c.gain_of-gain.ensures.value _ _ (omega (arith, c.if-long-gain.true)) c.taken.ensures c.in_ok-push_back.ensures.items

pub put_taken-requires-clause-place : goal.put_taken-requires-clause-place
put_taken-requires-clause-place c = (has_place _ _ _ c.args.segment c.requires.places).0

pub put_taken-requires-clause-machine : goal.put_taken-requires-clause-machine
put_taken-requires-clause-machine c = omega (arith, (has_place _ _ _ c.args.segment c.requires.places).1, c.requires.machines)

pub second_of-rest-requires-clause-places : goal.second_of-rest-requires-clause-places
second_of-rest-requires-clause-places c = subst (λ m. HasPlaces m c.args.swap c.args.seat.now.place c.args.segment) (sym c.requires.machines) c.requires.places

pub returns-clause-laid : goal.returns-clause-laid
returns-clause-laid c =
    let is = c.gain_of-gain.ensures.value in
    let less : c.args.left < c.args.segment.length * c.gain_of-gain.result = omega (arith, c.if-long-gain.false) in
    let divides = must_divide c.args.swap (λ k. slice_index_or c.args.seat.now.speeds.now k 0)
    c.args.seat.now.job c.args.seat.now.place c.args.left c.args.segment [] [] c.gain_of-gain.result is c.requires.gains less in
    IsOneLaid-parted _ _ _ _ _ _ _ _ _ is less divides c.second_of-rest.result _ _ c.in_ok-put_taken.ensures.none c.in_ok-put_taken.ensures.some
    c.second_of-rest.ensures.long c.second_of-rest.ensures.part refl
