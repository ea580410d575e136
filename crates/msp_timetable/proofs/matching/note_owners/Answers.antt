use Rattle.std.proofs.Common.{◌≡◌, length, arith, subst, sym, rules}
use Rattle.msp_timetable.specs.Square.{IsPermuted, IsOwners}
use Rattle.msp_timetable.proofs.Owners.{IsOwners-noted}
use Rattle.msp_timetable.proofs.matching.note_owners.Goals as goal

pub returns-clause-owners : goal.returns-clause-owners
returns-clause-owners c =
    let all : length c.args.seats.now.columns.items ≡ c.loop-row.row = search rules in
    let p = c.requires in
    subst (λ xs. IsOwners (length c.args.seats.now.owner.items) xs c.loop-row.seats.owner.items) c.loop-row.invariant.columns
    (IsOwners-noted _ _ _ (subst (IsPermuted (length c.args.seats.now.owner.items)) (sym c.loop-row.invariant.columns) p)
    c.loop-row.invariant.size (λ r l. c.loop-row.invariant.noted r (omega (arith, all, p.size))))
