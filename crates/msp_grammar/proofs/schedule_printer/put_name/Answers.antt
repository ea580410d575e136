-- The goals of `put_name` that are proved by lemmas.
use Rattle.std.proofs.Common.{◌≡◌, [], ap, ◌∙◌, sym}
use Rattle.std.specs.Option.{unwrap_or}
use Rattle.std.proofs.lemmas.List.{append-nil}
use Rattle.std.proofs.lemmas.Option.{unwrap_or-slice_get}
use Rattle.msp_grammar.specs.ScheduleText.{name_at}
use Rattle.msp_grammar.proofs.schedule_printer.put_name.Goals as goal

-- past the last name nothing is written
pub returns-in-None-clause-added : goal.returns-in-None-clause-added
returns-in-None-clause-added c =
    let none : name_at c.args.names.now c.args.job ≡ [] = sym (unwrap_or-slice_get c.args.names.now c.args.job []) ∙ ap (λ o. unwrap_or o []) (sym c.in-None.ensures) in
    rw none (sym (append-nil c.args.out.now.items))
