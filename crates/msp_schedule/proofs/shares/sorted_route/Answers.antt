use Rattle.std.proofs.Common.{length}
use Rattle.msp_pieces.specs.Within.{IsMoment}
use Rattle.msp_schedule.proofs.judging.SortedPieces.{of_sorted, inside_sorted, routes_sorted, route_sorted}
use Rattle.msp_schedule.proofs.shares.sorted_route.Goals as goal

pub route_in-requires-clause-places : goal.route_in-requires-clause-places
route_in-requires-clause-places c = inside_sorted c.args.pieces.now _ _ c.in_ok-sorted.ensures.permutation c.deref.ensures.value c.args.inst.now c.requires.routes c.requires.places

pub route_in-requires-clause-moments : goal.route_in-requires-clause-moments
route_in-requires-clause-moments c = of_sorted c.args.pieces.now _ _ c.in_ok-sorted.ensures.permutation c.deref.ensures.value (λ p. IsMoment p.from × IsMoment p.to) c.requires.moments

pub returns-clause-none : goal.returns-clause-none
returns-clause-none c = λ e. routes_sorted c.args.pieces.now _ _ c.in_ok-sorted.ensures.permutation c.deref.ensures.value (length c.args.inst.now.jobs) (c.route_in.ensures.none e)

pub returns-clause-some : goal.returns-clause-some
returns-clause-some c = route_sorted c.args.pieces.now _ _ c.in_ok-sorted.ensures.permutation c.deref.ensures.value c.args.inst.now c.route_in.result c.route_in.ensures.some
