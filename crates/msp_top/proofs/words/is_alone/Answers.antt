-- The goals of `is_alone` that are proved by lemmas.
use Rattle.std.proofs.Common.{length, ap, ◌∙◌, sym}
use Rattle.std.proofs.lemmas.Bool.Decides.{Decides-eqb}
use Rattle.std.proofs.lemmas.Slice.Eq.{bytes_eq-Decides}
use Rattle.std.proofs.lemmas.List.{nil_from_length}
use Rattle.msp_top.proofs.words.is_alone.Goals as goal

pub returns-then-eq : goal.returns-then-eq
returns-then-eq c = (
  λ empty. ((bytes_eq-Decides _ _).0 (sym c.eq.ensures ∙ c.if-eq.true), nil_from_length _ ((Decides-eqb _ _).0 (sym c.is_empty.ensures ∙ empty))),
  λ alone. c.is_empty.ensures ∙ (Decides-eqb _ _).1 (ap length alone.1),
)
