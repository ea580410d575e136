-- The goals of `join_row` that are proved by lemmas.
use Rattle.std.proofs.Common.{sym, ◌∙◌}
use Rattle.msp_closure.specs.Tables.{allows}
use Rattle.msp_closure.proofs.ReachLemmas.{GrowsAt-join, IncludesFlagged-join}
use Rattle.msp_closure.proofs.reach_bits.join_row.Goals as goal

pub returns-in-Some-clause-grows : goal.returns-in-Some-clause-grows
returns-in-Some-clause-grows c = GrowsAt-join (allows c.args.rows) c.args.relation.now c.join.new.self c.args.c c.in-Some.next c.args.row
    (sym c.step.ensures ∙ c.in-Some.is) c.join.ensures.joins

pub returns-in-Some-clause-includes : goal.returns-in-Some-clause-includes
returns-in-Some-clause-includes c = IncludesFlagged-join (allows c.args.rows) c.args.last.now c.args.relation.now c.join.new.self c.args.c
    c.in-Some.next c.args.row (sym c.step.ensures ∙ c.in-Some.is) c.join.ensures.joins
