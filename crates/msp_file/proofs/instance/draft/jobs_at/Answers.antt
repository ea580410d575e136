-- The goals of `jobs_at` that are proved by lemmas.
use Rattle.std.proofs.Common.{refl, sym, ◌∙◌, subst, Result}
use Rattle.msp_grammar.specs.declared.lines.fault.FileFault.{FileFault}
use Rattle.msp_file.specs.declared.instance.draft.Draft.{Draft}
use Rattle.msp_grammar.specs.lines.Reading.{Place}
use Rattle.msp_grammar.specs.lines.Steps.{Moves, place_of}
use Rattle.msp_grammar.proofs.reading.Lines.{leaves_all, leaves_line, leaves_next, leaves_last, leaves_fault}
use Rattle.msp_file.proofs.instance.draft.jobs_at.Goals as goal

pub lines-init : goal.lines-init
lines-init c = (c.requires.even, c.requires.few, leaves_all _ _ _ _ _ refl)

pub lines-preserved : goal.lines-preserved
lines-preserved c =
    let says = c.in-Ok-Job.ensures in
    let step = rw c.in-Ok-Job.field-0-is at says.after in
    (says.even, says.few, leaves_next _ _ _ _ _ _ _ _ step (λ next. refl) says.shrinks c.lines.invariant.2)

pub returns-in-Ok-Arc-clause-moves : goal.returns-in-Ok-Arc-clause-moves
returns-in-Ok-Arc-clause-moves c =
    let step = rw c.in-Ok-Arc.field-0-is at c.in-Ok-Arc.ensures.after in
    subst (λ (read : Result (Draft × Place) FileFault). Moves (λ _. c.arcs_at.new.draft) c.arcs_at.result (place_of c.arcs_at.new.lines) read)
    (leaves_line _ _ _ _ _ _ step c.lines.invariant.2).2 c.arcs_at.ensures.moves

pub returns-in-Ok-End-clause-moves : goal.returns-in-Ok-End-clause-moves
returns-in-Ok-End-clause-moves c = let step = rw c.in-Ok-End.field-0-is at c.in-Ok-End.ensures.after in leaves_last _ _ _ _ _ _ _ step c.lines.invariant.2

pub returns-in-Err-clause-moves : goal.returns-in-Err-clause-moves
returns-in-Err-clause-moves c = leaves_fault _ _ _ _ _ c.in-Err.fault c.in-Err.ensures.after c.lines.invariant.2
