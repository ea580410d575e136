-- The goals of `place` that are proved by lemmas.
use Rattle.std.proofs.Common.{bytes_eq, position, ap, ◌∙◌}
use Rattle.std.specs.List.{list_any}
use Rattle.msp_text.proofs.NameLists.{placed}
use Rattle.msp_text.proofs.names.Names.place.Goals as goal

pub returns-clause-place : goal.returns-clause-place
returns-clause-place c =
    placed
    c.args.self.now
    c.args.name.now
    c.get_index_of.result
    (c.get_index_of.ensures.index ∙ ap (λ w. position (bytes_eq w) c.self.inside.set.keys) c.name.view_is ∙ ap (position (bytes_eq c.args.name.now)) c.self.view_is)
    (c.get_index_of.ensures.found ∙ ap (λ w. list_any (bytes_eq w) c.self.inside.set.keys) c.name.view_is ∙ ap (list_any (bytes_eq c.args.name.now)) c.self.view_is)
