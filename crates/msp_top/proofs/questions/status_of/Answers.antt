-- The goals of `status_of` that are proved by lemmas.
use Rattle.std.proofs.Common.{◌∙◌, sym}
use Rattle.msp_top.proofs.WordLemmas.{differ}
use Rattle.msp_top.proofs.QuestionAnswers.{status_first, status_second, status_none}
use Rattle.msp_top.proofs.questions.status_of.Goals.{then-is_some, else-is_some}
use Rattle.msp_top.proofs.questions.status_of.Goals as goal

pub returns-then-is_some-2 : goal.returns-then-is_some-2
returns-then-is_some-2 c entries h = elim c.if-is_some.branch [
  | then-is_some w ↦ status_first entries _ _ (sym c.is_some.ensures ∙ w.if-is_some.true) h
  | else-is_some w ↦ status_second entries _ _ (sym w.is_some-else-is_some.ensures ∙ sym w.value-is ∙ c.if-is_some-2.true) h
]

pub returns-else-is_some-2 : goal.returns-else-is_some-2
returns-else-is_some-2 c entries h = elim c.if-is_some.branch [
  | then-is_some w ↦ differ (sym c.if-is_some-2.false ∙ w.value-is ∙ w.if-is_some.true)
  | else-is_some w ↦ status_none entries _ _ (sym c.is_some.ensures ∙ w.if-is_some.false) (sym w.is_some-else-is_some.ensures ∙ sym w.value-is ∙ c.if-is_some-2.false) h
]
