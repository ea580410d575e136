-- The goals of `nearer` that are proved by lemmas.
use Rattle.std.proofs.Common.{Option, Some, None}
use Rattle.std.specs.Prelude.{IfNone}
use Rattle.msp_closure.proofs.walk.nearer.Goals as goal

-- a fact under a premise too
weaker : {X : Type 0} (A P : Type 0) (o : Option X) → IfNone o P → IfNone o (A → P)
weaker A P None h = λ _. h
weaker A P (Some x) h = h

pub returns-else-value-eq0-clause-least : goal.returns-else-value-eq0-clause-least
returns-else-value-eq0-clause-least c = simp (c.at-value.ensures.value 0) c.least_row.ensures.least

pub returns-else-value-eq0-clause-none : goal.returns-else-value-eq0-clause-none
returns-else-value-eq0-clause-none c = simp (c.at-value.ensures.value 0) (weaker _ _ c.least_row.result c.least_row.ensures.none)
