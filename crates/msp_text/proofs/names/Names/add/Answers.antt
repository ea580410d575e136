-- The goals of `add` that are proved by lemmas.
use Rattle.std.proofs.Common.{arith, bytes_eq, not, ap, ◌∙◌}
use Rattle.std.specs.List.{list_any}
use Rattle.std.proofs.lemmas.Grind.{elements}
use Rattle.indexmap.specs.IndexSet.{insert_key}
use Rattle.msp_text.proofs.NameLists.{adds}
use Rattle.msp_text.proofs.names.Names.add.Goals as goal

pub returns-clause-added : goal.returns-clause-added
returns-clause-added c =
    adds
    c.args.self.now
    c.insert.new.self.keys
    c.args.name
    c.in-Ok.added
    (c.in-Ok.ensures.added ∙ ap (λ w. not (list_any (bytes_eq w) c.self.inside.set.keys)) c.name.view_is ∙ ap (λ ks. not (list_any (bytes_eq c.args.name) ks)) c.self.view_is)
    (c.in-Ok.ensures.keys ∙ ap (λ w. insert_key bytes_eq c.self.inside.set.keys w) c.name.view_is ∙ ap (λ ks. insert_key bytes_eq ks c.args.name) c.self.view_is)

pub invariant_of-self-2 : goal.invariant_of-self-2
invariant_of-self-2 c = grind (arith, elements) steps 2000000
