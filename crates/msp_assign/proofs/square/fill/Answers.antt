use Rattle.std.proofs.Common.{length, sym, subst, ◌∙◌, arith}
use Rattle.msp_assign.proofs.Lists.{whole_slice}
use Rattle.msp_assign.specs.Search.{sizes, IsPlaced}
use Rattle.msp_assign.proofs.Squares.{IsPlaced-start, AreMarked-start, AreMarked-next}
use Rattle.msp_assign.proofs.square.fill.Goals as goal

pub rows-init : goal.rows-init
rows-init g c = record {
  placed = rw c.new-column_of.ensures.items (IsPlaced-start _ _ _ _ c.columns-columns.ensures (c.in_ok-falls.ensures.items_if_clones_equal (λ y q. q)));
  marked = rw c.new-column_of.ensures.items (AreMarked-start _ _ _ c.columns-columns.ensures (c.in_ok-taken.ensures.items_if_clones_equal (λ y q. q)));
  few = omega arith;
}

pub place-requires-clause-placed : goal.place-requires-clause-placed
place-requires-clause-placed g c = rw c.as_mut_slice.ensures.value c.rows.invariant.placed

pub place-requires-clause-marked : goal.place-requires-clause-marked
place-requires-clause-marked g c = rw c.as_slice.ensures.value c.rows.invariant.marked

pub rows-preserved : goal.rows-preserved
rows-preserved g c = record {
  placed = subst (λ x. IsPlaced (sizes (g.C.Costs.cost c.args.costs.now)) (g.C.Costs.column_count c.args.costs.now) x c.place.new.column_of.items)
      (sym (whole_slice c.rows.falls.len (length c.place.new.falls) c.place.new.falls c.rows.falls.items (c.place.auto.falls ∙ c.as_mut_slice.ensures.len))) c.in_ok-column.ensures.placed;
  marked = AreMarked-next _ _ _ _ _ _ c.rows.invariant.marked c.in_ok-column.ensures.taken;
  few = omega (arith, c.in_ok-column.ensures.longer, c.rows-test.true, c.columns-columns.ensures);
}
