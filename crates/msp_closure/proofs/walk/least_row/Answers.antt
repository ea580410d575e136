-- The goals of `least_row` that are proved by lemmas.
use Rattle.std.proofs.Common.{ℕ, ◌<◌, subst, arith, below_more}
use Rattle.msp_closure.specs.Tables.{allows}
use Rattle.msp_closure.specs.Walk.{LeadsToValue}
use Rattle.msp_closure.proofs.StepLemmas.{step_of-numbered}
use Rattle.msp_closure.proofs.walk.least_row.Goals as goal

pub loop-k-init : goal.loop-k-init
loop-k-init c = λ j below leads.
    let numbered = step_of-numbered (allows c.args.rows) j c.args.c leads.0 leads.1 in
    absurd (omega (arith, numbered.0))

pub returns-in-Some-clause-least : goal.returns-in-Some-clause-least
returns-in-Some-clause-least c = λ k below. c.loop-k.invariant k (omega (arith, c.row_at-row.ensures))

pub loop-k-preserved : goal.loop-k-preserved
loop-k-preserved c = below_more (λ j. ¬ LeadsToValue (allows c.args.rows) c.args.table.now c.args.c c.args.value j) c.loop-k.k c.loop-k.invariant
    (let P : ℕ → Type 0 = λ j. ¬ LeadsToValue (allows c.args.rows) c.args.table.now c.args.c c.args.value j in
    subst P c.row_at-row.ensures c.in-None.ensures.none)

pub returns-clause-none : goal.returns-clause-none
returns-clause-none c = λ k leads.
    let numbered = step_of-numbered (allows c.args.rows) k c.args.c leads.0 leads.1 in
    let below : k < c.loop-k.k = omega (arith, numbered.1) in
    c.loop-k.invariant k below leads
