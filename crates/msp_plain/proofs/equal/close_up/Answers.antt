-- The pieces in order are closed to the same pieces in another order.
use Rattle.std.proofs.Common.{arith, pos, ◌≤ℤ◌, ◌<ℤ◌, IsPermutation, refl, subst}
use Rattle.std.proofs.lemmas.Grind.{common_steps}
use Rattle.std.proofs.lemmas.List.Sorted.{All-permutation}
use Rattle.msp_route.specs.declared.bounds.TheConstants.{GREATEST_CLOSED_UP}
use Rattle.msp_plain.specs.Equal.{closed}
use Rattle.msp_plain.proofs.Closed.{closed-permutation, put_in_order}
use Rattle.msp_plain.proofs.equal.close_up.Goals as goal
use Rattle.msp_plain.proofs.equal.close_up.Goals.{After-deref_mut}

ordered : (c : After-deref_mut) → IsPermutation c.args.s.now.pieces c.deref_mut.result.now
ordered c = put_in_order _ _ _ _ c.take_all-pieces.ensures.all c.sort_pieces.ensures.permutation c.deref_mut.ensures.value

pub close-requires-clause-span : goal.close-requires-clause-span
close-requires-clause-span c = All-permutation (λ p. (pos 0 ≤ℤ p.from) × (p.from <ℤ p.to)) c.args.s.now.pieces c.deref_mut.result.now (ordered c) c.requires.span

pub close-requires-clause-small : goal.close-requires-clause-small
close-requires-clause-small c = All-permutation (λ p. p.to ≤ℤ GREATEST_CLOSED_UP) (closed c.args.time c.args.s.now.pieces)
    (closed c.args.time c.deref_mut.result.now) (closed-permutation c.args.time c.args.s.now.pieces c.deref_mut.result.now (ordered c)) c.requires.small

pub returns : goal.returns
returns c = record {
  unit = refl;
  pieces = subst (IsPermutation (closed c.args.time c.args.s.now.pieces)) (grind (arith, common_steps))
      (closed-permutation c.args.time c.args.s.now.pieces c.deref_mut.result.now (put_in_order _ _ _ _ c.take_all-pieces.ensures.all c.sort_pieces.ensures.permutation c.deref_mut.ensures.value));
}
