use Rattle.std.proofs.Common.{sym, ap, ◌∙◌}
use Rattle.std.specs.Option.{option_map}
use Rattle.std.proofs.lemmas.Option.{slice_get-map}
use Rattle.msp_dispatch.specs.Solved.{solved_list}
use Rattle.msp_dispatch.proofs.solved_list.solved.Goals as goal

pub returns-in-Some : goal.returns-in-Some
returns-in-Some c = sym (slice_get-map (λ s. s.class) solved_list c.args.n ∙ ap (option_map (λ s. s.class)) (sym c.entry_at.ensures ∙ c.in-Some.is))

pub returns-in-None : goal.returns-in-None
returns-in-None c = sym (slice_get-map (λ s. s.class) solved_list c.args.n ∙ ap (option_map (λ s. s.class)) (sym c.entry_at.ensures ∙ c.in-None.is))
