use Rattle.std.proofs.Common.{◌∙◌, ap, arith, ◌++◌, ◌∷◌, [], length, replicate, subst, lit<, zero-le}
use Rattle.std.proofs.lemmas.List.{length-replicate}
use Rattle.msp_assign.specs.declared.search.TheConstants.{FAR}
use Rattle.msp_assign.specs.Search.{AreAll}
use Rattle.msp_assign.proofs.Bounds.{paid-at_most}
use Rattle.msp_assign.proofs.Growth.{AreNearest-none, all-apart, all-inside, IsSearch-made}
use Rattle.msp_assign.proofs.search.begun.Goals as goal

pub spread-requires : goal.spread-requires
spread-requires g c =
    let columns = c.columns-columns.ensures in
    let all = subst (λ n. AreAll n c.in_ok-all_columns.field-0.items) columns c.in_ok-all_columns.ensures in
    record {
      edges = record { costs = c.requires.row.costs; falls = c.requires.row.placed.size; low = c.requires.row.placed.low; inside = c.requires.row.next; near = zero-le; least = λ d l. zero-le };
      owners = c.requires.owners;
      inside = all-inside _ _ all;
      apart = all-apart _ _ all;
      some = omega (arith, all.size, c.requires.row.free.1);
      distances = ap length (c.in_ok-vec.ensures.items_if_clones_equal (λ y q. q)) ∙ length-replicate c.columns-columns.result FAR ∙ columns;
      places = ap length (c.in_ok-vec-2.ensures.items_if_clones_equal (λ y q. q)) ∙ length-replicate c.columns-columns.result 0 ∙ columns;
      near = AreNearest-none _ _;
    }

pub returns : goal.returns
returns g c = record {
  search = IsSearch-made _ _ _ _ FAR c.in_ok-all_columns.field-0.items c.spread.new.search.left.items
      c.in_ok-vec.field-0.items c.in_ok-vec-2.field-0.items c.spread.new.search.distance.items c.spread.new.search.from.items c.spread.new.search.tree.items
      (lit< tt)
      (subst (λ n. AreAll n c.in_ok-all_columns.field-0.items) c.columns-columns.ensures c.in_ok-all_columns.ensures)
      (c.in_ok-vec.ensures.items_if_clones_equal (λ y q. q) ∙ ap (λ n. replicate n FAR) c.columns-columns.ensures)
      (ap length (c.in_ok-vec-2.ensures.items_if_clones_equal (λ y q. q)) ∙ length-replicate c.columns-columns.result 0 ∙ c.columns-columns.ensures)
      (λ d l. paid-at_most (g.C.Costs.row_count c.args.costs.now) (g.C.Costs.column_count c.args.costs.now) _ _ c.requires.row.costs c.requires.row.placed.low _ d c.requires.row.next l)
      c.spread.ensures.distances c.spread.ensures.places c.spread.ensures.relaxed
      (c.spread.ensures.tree ∙ c.in_ok-push.ensures.items ∙ ap (λ xs. xs ++ length c.args.column_of.now ∷ []) c.new-tree.ensures.items)
      c.spread.ensures.same;
  nearest = c.spread.ensures.nearest;
}
