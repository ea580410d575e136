-- The goals of `place_of` that are proved by lemmas.
use Rattle.std.proofs.Common.{ℕ, List, bytes_eq, position, ap, ◌∙◌}
use Rattle.msp_text.proofs.NameLists.{name_found}
use Rattle.msp_text.proofs.names.Names.place_of.Goals as goal

pub returns-clause-name : goal.returns-clause-name
returns-clause-name c =
    name_found
    c.self.inside.set.keys
    c.args.bytes.now
    c.get_index_of.result
    c.self.invariant
    (c.get_index_of.ensures.index ∙ ap (λ (w : List ℕ). position (bytes_eq w) c.self.inside.set.keys) c.new.ensures)
