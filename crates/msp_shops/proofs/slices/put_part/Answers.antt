use Rattle.std.proofs.Common.{rules, sym, subst, ◌∙◌}
use Rattle.std.specs.Int.{w128}
use Rattle.std.proofs.lemmas.Int.{to_z-of_z}
use Rattle.msp_shops.specs.Sliced.{AreInRows}
use Rattle.msp_shops.proofs.slices.put_part.Goals as goal

pub returns-clause-rows : goal.returns-clause-rows
returns-clause-rows c = subst (λ t. AreInRows c.args.machine t c.put_piece.new.row.pieces.items) (sym (to_z-of_z w128 _ (search rules) ∙ c.end_of-end.ensures)) c.in_ok-put_piece.ensures.rows
