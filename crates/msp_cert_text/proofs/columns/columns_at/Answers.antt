-- The goals of `columns_at` that are proved by lemmas.
use Rattle.std.proofs.Common.{refl, sym, ap, ◌+◌, ◌∙◌, rules}
use Rattle.std.proofs.lemmas.Result.{err_from_is_err_and}
use Rattle.msp_grammar.proofs.reading.Lines.{leaves_all, leaves_next, leaves_last, leaves_fault}
use Rattle.msp_cert_text.proofs.ColumnLaws.{columns_count}
use Rattle.msp_cert_text.proofs.columns.columns_at.Goals as goal

pub lines-init : goal.lines-init
lines-init c = (search rules, leaves_all _ _ _ _ _ c.new-prices.ensures)

pub lines-preserved : goal.lines-preserved
lines-preserved c =
    let step = rw c.if-branch.true at c.in_ok-columns_step.ensures.after in (
      ap (λ k. k + 1) c.lines.invariant.0 ∙ sym (columns_count _ _ _ _ _ _ _ step),
      leaves_next _ _ _ _ _ _ _ _ step (λ next. refl) c.in_ok-columns_step.ensures.shrinks c.lines.invariant.1,
    )

pub returns : goal.returns
returns c = let step = rw c.if-branch.false at c.in_ok-columns_step.ensures.after in leaves_last _ _ _ _ _ _ _ step c.lines.invariant.1

pub returns-in_err-columns_step : goal.returns-in_err-columns_step
returns-in_err-columns_step c =
    let p = err_from_is_err_and c.from_residual.result c.from_residual.ensures.1 in
    rw (p.1, p.2) (leaves_fault _ _ _ _ _ c.in_err-columns_step.field-0.0 c.in_err-columns_step.ensures.after c.lines.invariant.1)
