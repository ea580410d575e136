-- The goals of `pieces_at` that are proved by lemmas.
use Rattle.std.proofs.Common.{refl}
use Rattle.msp_file.proofs.instances.AnswerLemmas.{failed}
use Rattle.msp_grammar.proofs.reading.Lines.{leaves_all, leaves_next, leaves_last, leaves_fault}
use Rattle.msp_file.proofs.schedule.read.pieces_at.Goals as goal

pub lines-init : goal.lines-init
lines-init c = leaves_all _ _ _ _ _ c.new-pieces.ensures

pub lines-preserved : goal.lines-preserved
lines-preserved c = let step = rw c.if-branch.true at c.in_ok-piece_step.ensures.after in leaves_next _ _ _ _ _ _ _ _ step (λ next. refl) c.in_ok-piece_step.ensures.shrinks c.lines.invariant

pub returns : goal.returns
returns c = let step = rw c.if-branch.false at c.in_ok-piece_step.ensures.after in leaves_last _ _ _ _ _ _ _ step c.lines.invariant

pub returns-in_err-piece_step : goal.returns-in_err-piece_step
returns-in_err-piece_step c =
    rw (failed _ c.from_residual.ensures.1) (leaves_fault _ _ _ _ _ c.in_err-piece_step.field-0.0 c.in_err-piece_step.ensures.after c.lines.invariant)
