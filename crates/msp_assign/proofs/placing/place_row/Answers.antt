use Rattle.std.proofs.Common.{length, sym, subst, ◌∙◌, arith}
use Rattle.msp_assign.proofs.Lists.{whole_slice}
use Rattle.msp_assign.specs.Search.{IsOwners}
use Rattle.msp_assign.proofs.Moves.{IsLowerable-row, IsTree-row, IsStepped-row}
use Rattle.msp_assign.proofs.placing.place_row.Goals as goal

pub find_free-requires : goal.find_free-requires
find_free-requires g c = record {
  row = rw c.as_slice-2.ensures.value record {
    costs = c.requires.costs;
    placed = c.requires.placed;
    next = c.requires.more;
    free = c.requires.free;
    few = c.requires.few;
  };
  owner = subst (λ n. IsOwners n c.as_slice-2.result.now c.as_slice-3.result.now) c.columns.ensures
      (subst (λ x. IsOwners c.columns.result x c.as_slice-3.result.now) (c.as_slice.ensures.value ∙ sym c.as_slice-2.ensures.value)
      (subst (IsOwners c.columns.result c.as_slice.result.now) (sym c.as_slice-3.ensures.value) c.in_ok-owner.ensures));
}

pub lower-requires : goal.lower-requires
lower-requires g c =
    let s = IsLowerable-row _ _ _ _ _ _ _ _ _ _ _ _ _ _ _ c.as_slice-2.ensures.value c.as_slice-5.ensures.value c.as_slice-4.ensures.value
    c.as_slice-6.ensures.value c.index-free.ensures c.index-far.ensures c.requires.placed c.in_ok-found.ensures.search.search c.in_ok-found.ensures.search.nearest in
    record {
      some = s.some;
      rows = s.rows;
      once = s.once;
      apart = s.apart;
      inside = s.inside;
      sizes = s.sizes;
      low = λ k l. c.requires.placed.low k (omega (arith, l, c.requires.placed.size));
      near = s.near;
    }

pub pass_on-requires : goal.pass_on-requires
pass_on-requires g c =
    IsTree-row _ _ _ _ _ _ _ _ _ _ _ _ _ _ c.as_slice-2.ensures.value c.as_slice-7.ensures.value c.as_slice-8.ensures.value c.index-free.ensures
    (c.as_mut_slice.ensures.value ∙ c.in_ok-push.ensures.items)
    c.requires.placed c.in_ok-found.ensures.search.search c.in_ok-found.ensures.search.nearest

pub returns : goal.returns
returns g c =
    let s = IsStepped-row _ _ _ _ _ _ _ _ _ _ _ _ _ _ _ _ _ _ _ _ _ _ c.as_slice-2.ensures.value
    c.as_slice-5.ensures.value c.as_slice-4.ensures.value c.as_slice-7.ensures.value c.as_slice-6.ensures.value c.as_slice-8.ensures.value
    c.index-free.ensures c.index-far.ensures (c.as_mut_slice.ensures.value ∙ c.in_ok-push.ensures.items)
    (whole_slice c.push.new.self.len (length c.pass_on.new.columns) c.pass_on.new.columns c.push.new.self.items (c.pass_on.auto.columns ∙ c.as_mut_slice.ensures.len))
    c.requires.costs c.requires.more c.requires.placed c.in_ok-found.ensures.search.search c.in_ok-found.ensures.search.nearest c.in_ok-found.ensures.free c.lower.ensures c.pass_on.ensures in
    record { placed = s.placed; longer = s.longer; taken = s.taken }
