-- The goals of `jobs_at` that are proved by lemmas.
use Rattle.std.proofs.Common.{refl}
use Rattle.std.proofs.lemmas.Result.{err_from_is_err_and}
use Rattle.msp_grammar.proofs.reading.Lines.{leaves_all, leaves_next, leaves_last, leaves_fault}
use Rattle.msp_cert_text.proofs.segments.jobs_at.Goals as goal

pub lines-init : goal.lines-init
lines-init c = leaves_all _ _ _ _ _ c.new-jobs.ensures

pub lines-preserved : goal.lines-preserved
lines-preserved c = let step = rw c.if-branch.true at c.in_ok-jobs_step.ensures.after in leaves_next _ _ _ _ _ _ _ _ step (λ next. refl) c.in_ok-jobs_step.ensures.shrinks c.lines.invariant

pub returns : goal.returns
returns c = let step = rw c.if-branch.false at c.in_ok-jobs_step.ensures.after in leaves_last _ _ _ _ _ _ _ step c.lines.invariant

pub returns-in_err-jobs_step : goal.returns-in_err-jobs_step
returns-in_err-jobs_step c =
    let p = err_from_is_err_and c.from_residual.result c.from_residual.ensures.1 in
    rw (p.1, p.2) (leaves_fault _ _ _ _ _ c.in_err-jobs_step.field-0.0 c.in_err-jobs_step.ensures.after c.lines.invariant)
