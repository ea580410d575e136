-- The goals of `arcs_at` that are proved by lemmas.
use Rattle.std.proofs.Common.{refl, ◌∙◌}
use Rattle.msp_grammar.proofs.reading.Lines.{leaves_all, leaves_next, leaves_last, leaves_fault}
use Rattle.msp_file.proofs.instance.draft.arcs_at.Goals as goal

pub lines-init : goal.lines-init
lines-init c = (c.requires, refl, refl, leaves_all _ _ _ _ _ refl)

pub lines-preserved : goal.lines-preserved
lines-preserved c =
    let step = rw c.in-Ok-true.field-0-test at c.in-Ok-true.ensures.after in (
      rw c.in-Ok-true.ensures.names c.lines.invariant.0,
      c.in-Ok-true.ensures.names ∙ c.lines.invariant.1,
      c.in-Ok-true.ensures.jobs ∙ c.lines.invariant.2,
      leaves_next _ _ _ _ _ _ _ _ step (λ next. refl) c.in-Ok-true.ensures.shrinks c.lines.invariant.3,
    )

pub returns-in-Ok-false-clause-moves : goal.returns-in-Ok-false-clause-moves
returns-in-Ok-false-clause-moves c = let step = rw c.in-Ok-false.field-0-test at c.in-Ok-false.ensures.after in leaves_last _ _ _ _ _ _ _ step c.lines.invariant.3

pub returns-in-Err-clause-moves : goal.returns-in-Err-clause-moves
returns-in-Err-clause-moves c = leaves_fault _ _ _ _ _ c.in-Err.fault c.in-Err.ensures.after c.lines.invariant.3
