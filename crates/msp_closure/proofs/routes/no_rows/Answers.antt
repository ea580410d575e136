use Rattle.std.proofs.Common.{List, ℕ, [], ◌∷◌, sym, subst}
use Rattle.std.specs.Prelude.{Some}
use Rattle.msp_closure.specs.Entries.{IsWay}
use Rattle.msp_closure.proofs.WayLemmas.{no_rows_is_way}
use Rattle.msp_closure.proofs.routes.no_rows.Goals as goal

pub returns-clause-way : goal.returns-clause-way
returns-clause-way c usable =
    let P : List ℕ → Type 0 = λ rows. IsWay usable (c.args.from ∷ []) (c.args.from ∷ []) (Some (record { from = c.args.from; rows = rows })) in
    subst P (sym c.new.ensures) (no_rows_is_way usable c.args.from)
