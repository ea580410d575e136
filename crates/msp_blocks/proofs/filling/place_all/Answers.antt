use Rattle.std.proofs.Common.{inl, inr, sym, subst, slice_index_or, arith}
use Rattle.std.proofs.lemmas.List.{nil_from_length}
use Rattle.msp_class.proofs.IntegerRing.{≤ℤ_refl}
use Rattle.msp_route.proofs.OneInstances.{IsOneInstance-from}
use Rattle.msp_blocks.specs.Filling.{IsFilling, IsBound, CostAtMost, greatest_end}
use Rattle.msp_blocks.proofs.Made.{CostAtMost-none, CostAtMost-more}
use Rattle.msp_blocks.proofs.filling.place_all.Goals as goal

pub place_next-requires-clause-filling : goal.place_next-requires-clause-filling
place_next-requires-clause-filling c =
    subst (λ ps. IsFilling c.args.inst.now (λ j. slice_index_or c.args.heads.now j 0) greatest_end c.args.jobs.items ps) (sym c.new-pieces.ensures) c.requires.filling

pub places-init : goal.places-init
places-init c =
    let i = c.args.inst.now in
    let h = c.in_ok-bound.ensures in
    let cost = c.in_ok-bound.bound.cost in
    let none = CostAtMost-none i (IsOneInstance-from i c.requires.machine c.requires.inner) (λ j. slice_index_or c.args.heads.now j 0) greatest_end c.args.jobs.items cost c.requires.filling in
    record {
      filling = h.filling;
      bound = h.bound;
      costs = h.costs cost (≤ℤ_refl cost) (subst (CostAtMost i cost c.args.jobs.items) (sym c.new-pieces.ensures) none);
    }

pub places-preserved : goal.places-preserved
places-preserved c =
    let i = c.args.inst.now in
    let l = c.places.invariant in
    let h = c.in_ok-next.ensures in
    let g = c.greater-bound in
    record {
      filling = h.filling;
      bound = elim g.ensures.either [
        | inl e ↦ subst (λ b. IsBound i c.args.heads.now b.jobs b.cost) (sym e) l.bound
        | inr e ↦ subst (λ b. IsBound i c.args.heads.now b.jobs b.cost) (sym e) h.bound
      ];
      costs = h.costs g.result.cost g.ensures.second (CostAtMost-more i c.places.bound.cost g.result.cost _ _ g.ensures.first l.costs);
    }

pub places-smaller : goal.places-smaller
places-smaller c = omega (arith, c.in_ok-next.ensures.shorter)

pub returns : goal.returns
returns c =
    let none = nil_from_length c.places.left.items (omega (arith, c.len.ensures, c.places-test.false)) in
    let l = c.places.invariant in
    record {
      filling = subst (λ js. IsFilling c.args.inst.now (λ j. slice_index_or c.args.heads.now j 0) greatest_end js c.places.pieces) none l.filling;
      bound = l.bound;
      costs = subst (λ js. CostAtMost c.args.inst.now c.places.bound.cost js c.places.pieces) none l.costs;
    }
