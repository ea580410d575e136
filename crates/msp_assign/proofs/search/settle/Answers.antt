use Rattle.std.proofs.Common.{rules, arith, ◌≡◌, ◌<◌, ◌+◌, ◌∙◌, ap, sym, length, get_or, subst}
use Rattle.std.proofs.lemmas.List.{get_or_default}
use Rattle.std.proofs.lemmas.List.Elements.{All-contains}
use Rattle.std.proofs.lemmas.List.Sorted.{length_permutation}
use Rattle.msp_assign.specs.Search.{sizes, IsSearch, IsRelaxed}
use Rattle.msp_assign.specs.Passing.{at}
use Rattle.msp_assign.proofs.Lists.{All-from_contained, at-Contains, taken_away}
use Rattle.msp_assign.proofs.Growth.{AreNearest-rest, HasEdges-own, IsClosest-at, IsSearch-grow, IsSearch-reordered, still_left}
use Rattle.msp_assign.proofs.search.settle.Goals as goal

pub spread-requires : goal.spread-requires
spread-requires g c =
    let before = c.requires.search in
    let inside : c.args.search.now.nearest < length c.args.search.now.left.items = omega (arith, before.nearest.inside) in
    let (is, rest) = taken_away _ _ _ _ before.search.apart inside c.swap_remove-column.ensures.value c.swap_remove-column.ensures.items in
    let closest = IsClosest-at _ _ _ _ before.nearest is in
    let has = c.requires.has ∙ sym is in
    let view = All-contains (λ x. x < g.C.Costs.column_count c.args.costs.now) _ _ before.search.inside closest.among in
    let depth : c.index.result.now ≡ at c.args.search.now.distance.items c.swap_remove-column.result =
    c.index.ensures ∙ get_or_default c.args.search.now.distance.items c.swap_remove-column.result c.index.result.now 0 (omega (arith, before.search.distances, view)) in
    let free = still_left _ _ _ _ c.requires.row.placed _ _ _ _ before.search _ _ closest c.requires.inside has _ rest c.requires.row.free.0 c.requires.row.free.1 c.requires.row.free.2 in
    let some = at-Contains c.swap_remove-column.new.self.items c.requires.row.free.0 free in
    let fewer : length c.swap_remove-column.new.self.items + 1 ≡ length c.args.search.now.left.items = search rules in
    record {
      edges = HasEdges-own _ _ _ _ _ _ _ _ _ c.requires.row before.search _ _ _ _ closest.among c.requires.inside has depth c.payment.ensures.value;
      owners = c.requires.owners;
      inside = All-from_contained _ _ (λ x m. All-contains (λ y. y < g.C.Costs.column_count c.args.costs.now) _ x before.search.inside (rest.before x m));
      apart = rest.apart;
      some = omega (arith, some.1);
      distances = before.search.distances;
      places = before.search.grown.size;
      near = AreNearest-rest _ _ _ _ _ _ before.nearest rest is depth fewer (λ j d n l. c.swap_remove-column.ensures.by_index.1 j d n (omega (arith, l, c.args.search.now.left.ok.0)));
    }

pub returns-clause-search : goal.returns-clause-search
returns-clause-search g c =
    let before = c.requires.search in
    let (is, rest) = taken_away _ _ _ _ before.search.apart (omega (arith, before.nearest.inside)) c.swap_remove-column.ensures.value c.swap_remove-column.ensures.items in
    let depth : c.index.result.now ≡ get_or c.args.search.now.distance.items c.swap_remove-column.result 0 =
    c.index.ensures ∙ get_or_default c.args.search.now.distance.items c.swap_remove-column.result c.index.result.now 0
    (omega (arith, before.search.distances, before.search.inside c.args.search.now.nearest 0 (omega (arith, before.nearest.inside)), is))
    in
    let place : c.len.result ≡ length c.args.search.now.tree.items = search rules in
    record {
      search = IsSearch-reordered _ _ _ _ _ _ _ _ _ c.spread.ensures.same
          (subst (IsSearch _ _ _ _ _ _ _) (sym (c.spread.ensures.tree ∙ c.in_ok-push.ensures.items))
          (IsSearch-grow _ _ _ _ c.requires.row.placed _ _ _ _ before.search _ _ (IsClosest-at _ _ _ _ before.nearest is)
          c.requires.inside (c.requires.has ∙ sym is) _ rest _ _ _ _ depth c.payment.ensures.value
          (subst (λ p. IsRelaxed (sizes (g.C.Costs.cost c.args.costs.now)) c.args.falls.now c.args.row p c.index.result.now c.payment.result c.swap_remove-column.new.self.items
          c.args.search.now.distance.items c.args.search.now.from.items c.spread.new.search.distance.items c.spread.new.search.from.items) place c.spread.ensures.relaxed)
          (c.spread.ensures.distances ∙ before.search.distances)
          (c.spread.ensures.places ∙ before.search.grown.size)));
      nearest = c.spread.ensures.nearest;
    }

pub returns-clause-fewer : goal.returns-clause-fewer
returns-clause-fewer g c = ap (λ n. n + 1) (length_permutation _ _ c.spread.ensures.same) ∙ (search rules)
