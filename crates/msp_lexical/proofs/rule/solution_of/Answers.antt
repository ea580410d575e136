-- The schedule of the rule is an answer.
use Rattle.std.proofs.Common.{slice_index, sym, subst}
use Rattle.msp_pieces.specs.Settled.{IsSettled}
use Rattle.msp_lexical.proofs.LexicalBest.{lexical}
use Rattle.msp_lexical.proofs.rule.solution_of.Goals as goal

pub best_solution-requires-clause-best : goal.best_solution-requires-clause-best
best_solution-requires-clause-best c = (lexical c.args.inst.now c.requires.class c.requires.inner (slice_index c.args.labels.now) c.requires.labels c.args.pieces c.requires.pieces).best

pub returns-clause-cost : goal.returns-clause-cost
returns-clause-cost c = (lexical c.args.inst.now c.requires.class c.requires.inner (slice_index c.args.labels.now) c.requires.labels c.args.pieces c.requires.pieces).cost
    c.best_solution.result.cost c.best_solution.ensures.cost

pub returns-clause-settled : goal.returns-clause-settled
returns-clause-settled c = subst IsSettled (sym c.best_solution.ensures.schedule)
    (lexical c.args.inst.now c.requires.class c.requires.inner (slice_index c.args.labels.now) c.requires.labels c.args.pieces c.requires.pieces).settled
