use Rattle.std.proofs.Common.{◌≡◌, ◌≢◌, ◌<◌, ◌∙◌, ℕ, List, All, AllPairs, IsPermutation, ap, length, refl, sym, subst}
use Rattle.msp_assign.specs.Passing.{at}
use Rattle.msp_assign.proofs.Lists.{whole_slice}
use Rattle.msp_assign.specs.Search.{sizes, AreNearest, IsNearest, IsRelaxed}
use Rattle.msp_assign.proofs.search.spread.Goals as goal

pub relax-far-requires : goal.relax-far-requires
relax-far-requires g c =
    let left = sym c.as_slice.ensures.value in
    record {
      edges = c.requires.edges;
      inside = subst (All (λ x. x < g.C.Costs.column_count c.args.costs.now)) left c.requires.inside;
      apart = subst (AllPairs (λ x y. x ≢ y)) left c.requires.apart;
      some = subst (λ xs. 0 < length xs) left c.requires.some;
      distances = ap length c.as_mut_slice.ensures.value ∙ c.requires.distances;
      places = ap length c.as_mut_slice-2.ensures.value ∙ c.requires.places;
      near = coe 0 1 (i. AreNearest (sym c.as_mut_slice.ensures.value i) (left i) c.args.near c.args.reached.depth) c.requires.near;
    }

pub gather-search-requires : goal.gather-search-requires
gather-search-requires g c =
    let left = sym c.as_mut_slice-3.ensures.value in
    let same = c.as_slice.ensures.value ∙ left in
    let distance = c.as_slice-2.ensures.value ∙ whole_slice c.args.search.now.distance.len (length c.relax-far.new.distance)
    c.relax-far.new.distance c.args.search.now.distance.items (c.relax-far.auto.distance ∙ c.as_mut_slice.ensures.len) in
    let size = ap length distance ∙ c.relax-far.auto.distance ∙ ap length c.as_mut_slice.ensures.value ∙ c.requires.distances in
    record {
      inside = coe 0 1 (i. All (λ x. x < sym size i) (left i)) c.requires.inside;
      owners = c.requires.owners ∙ sym size;
      near = coe 0 1 (i. AreNearest (sym distance i) (same i) c.args.near c.relax-far.result) c.relax-far.ensures.near;
      reached = coe 0 1 (i. (k : ℕ) × (k < length (same i)) × (at (sym distance i) (at (same i) k) ≡ c.relax-far.result)) c.relax-far.ensures.reached;
    }

pub returns : goal.returns
returns g c =
    let s = c.args.search.now in
    let distance = whole_slice s.distance.len (length c.relax-far.new.distance)
    c.relax-far.new.distance s.distance.items (c.relax-far.auto.distance ∙ c.as_mut_slice.ensures.len) in
    let places = whole_slice s.from.len (length c.relax-far.new.from) c.relax-far.new.from s.from.items (c.relax-far.auto.from ∙ c.as_mut_slice-2.ensures.len) in
    let left = sym (whole_slice s.left.len (length c.gather-search.new.left) c.gather-search.new.left s.left.items (c.gather-search.auto.left ∙ c.as_mut_slice-3.ensures.len)) in
    record {
      relaxed = coe 0 1 (i. IsRelaxed (sizes (g.C.Costs.cost c.args.costs.now)) c.args.falls.now c.args.reached.row c.args.reached.place c.args.reached.depth c.args.reached.own
          (c.as_slice.ensures.value i) (c.as_mut_slice.ensures.value i) (c.as_mut_slice-2.ensures.value i) (sym distance i) (sym places i)) c.relax-far.ensures.relaxed;
      same = coe 0 1 (i. IsPermutation (c.as_mut_slice-3.ensures.value i) (left i)) c.gather-search.ensures.same;
      nearest = coe 0 1 (i. IsNearest (c.as_slice-2.ensures.value i) (left i) c.gather-search.result) c.gather-search.ensures.nearest;
      tree = refl {A = List ℕ};
      distances = ap length distance ∙ c.relax-far.auto.distance ∙ ap length c.as_mut_slice.ensures.value;
      places = ap length places ∙ c.relax-far.auto.from ∙ ap length c.as_mut_slice-2.ensures.value;
    }
