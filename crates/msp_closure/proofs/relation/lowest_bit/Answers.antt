-- The goals of `lowest_bit` that are proved by lemmas.
use Rattle.msp_closure.proofs.RelationLemmas.{lowest_none, lowest_some}
use Rattle.msp_closure.proofs.relation.lowest_bit.Goals as goal

pub returns-then-rest-eq0-clause-none : goal.returns-then-rest-eq0-clause-none
returns-then-rest-eq0-clause-none c = λ k high below. lowest_none c.args.word c.args.from k c.if-rest-eq0.true high

pub returns-else-rest-eq0-clause-inside : goal.returns-else-rest-eq0-clause-inside
returns-else-rest-eq0-clause-inside c = (lowest_some c.args.word c.args.from c.ranges.word.fits c.if-rest-eq0.false).inside

pub returns-else-rest-eq0-clause-set : goal.returns-else-rest-eq0-clause-set
returns-else-rest-eq0-clause-set c = (lowest_some c.args.word c.args.from c.ranges.word.fits c.if-rest-eq0.false).is_set

pub returns-else-rest-eq0-clause-least : goal.returns-else-rest-eq0-clause-least
returns-else-rest-eq0-clause-least c = (lowest_some c.args.word c.args.from c.ranges.word.fits c.if-rest-eq0.false).least
