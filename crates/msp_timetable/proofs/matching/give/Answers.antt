use Rattle.std.proofs.Common.{length, ap, sym, subst₂, arith, ◌∙◌}
use Rattle.std.proofs.lemmas.List.{get_or_default}
use Rattle.msp_assign.proofs.Lists.{whole_slice}
use Rattle.msp_timetable.specs.Square.{IsOwners}
use Rattle.msp_timetable.proofs.Lists.{IsPermuted-size}
use Rattle.msp_timetable.proofs.Ways.{read_turned, IsTree-read, IsBetter-read}
use Rattle.msp_timetable.proofs.matching.give.Goals as goal

pub swap-requires : goal.swap-requires
swap-requires c =
    let inside = c.in_ok-search.ensures.inside in
    let owner = (c.requires.owners.each _ inside).0 in
    let last = c.index-last.ensures ∙ get_or_default c.args.seats.now.owner.items _ _ 0 (omega (arith, c.requires.owners.size, inside)) in
    let size = ap length c.as_mut_slice-columns.ensures.value ∙ c.requires.permuted.size in
    record { a_in_bounds = omega (arith, size, c.requires.row); b_in_bounds = omega (arith, size, owner, last) }

pub pass_on-requires : goal.pass_on-requires
pass_on-requires c =
    let (last, swapped, same) = read_turned c.args.seats.now.columns.items c.args.seats.now.owner.items _ c.swap.new.self c.args.row c.in_ok-search.search.free c.index-last.result.now
    c.as_mut_slice-columns.ensures.value (omega (arith, c.requires.owners.size, c.in_ok-search.ensures.inside)) c.index-last.ensures c.swap.ensures.by_index c.swap.ensures.permutation in
    IsTree-read _ _ _ _ c.requires.permuted c.requires.owners _ _ _ _ _ c.in_ok-search.ensures last _ swapped same _ _ c.as_slice.ensures.value c.as_slice-2.ensures.value

pub note_owners-requires : goal.note_owners-requires
note_owners-requires c =
    let (last, swapped, same) = read_turned c.args.seats.now.columns.items c.args.seats.now.owner.items _ c.swap.new.self c.args.row c.in_ok-search.search.free c.index-last.result.now
    c.as_mut_slice-columns.ensures.value (omega (arith, c.requires.owners.size, c.in_ok-search.ensures.inside)) c.index-last.ensures c.swap.ensures.by_index c.swap.ensures.permutation in
    let whole = whole_slice c.args.seats.now.columns.len (length c.pass_on.new.columns)
    c.pass_on.new.columns c.args.seats.now.columns.items (c.pass_on.auto.columns ∙ c.swap.ensures.len ∙ c.as_mut_slice-columns.ensures.len) in
    let better = IsBetter-read _ _ _ _ c.requires.permuted c.requires.owners _ _ _ _ _ c.in_ok-search.ensures
    last _ swapped same c.requires.row _ _ _ _ c.as_slice.ensures.value c.as_slice-2.ensures.value whole c.pass_on.ensures in
    IsPermuted-size _ _ _ c.requires.owners.size better.permuted

pub returns-clause-better : goal.returns-clause-better
returns-clause-better c =
    let (last, swapped, same) = read_turned c.args.seats.now.columns.items c.args.seats.now.owner.items _ c.swap.new.self c.args.row c.in_ok-search.search.free c.index-last.result.now
    c.as_mut_slice-columns.ensures.value (omega (arith, c.requires.owners.size, c.in_ok-search.ensures.inside)) c.index-last.ensures c.swap.ensures.by_index c.swap.ensures.permutation in
    let whole = whole_slice c.args.seats.now.columns.len (length c.pass_on.new.columns)
    c.pass_on.new.columns c.args.seats.now.columns.items (c.pass_on.auto.columns ∙ c.swap.ensures.len ∙ c.as_mut_slice-columns.ensures.len) in
    IsBetter-read _ _ _ _ c.requires.permuted c.requires.owners _ _ _ _ _ c.in_ok-search.ensures
    last _ swapped same c.requires.row _ _ _ _ c.as_slice.ensures.value c.as_slice-2.ensures.value (c.note_owners.ensures.same ∙ whole) c.pass_on.ensures

pub returns-clause-owners : goal.returns-clause-owners
returns-clause-owners c =
    subst₂ (λ n xs. IsOwners n xs c.note_owners.new.seats.owner.items) c.requires.owners.size (sym c.note_owners.ensures.same) c.note_owners.ensures.owners
