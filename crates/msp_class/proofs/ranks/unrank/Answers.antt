use Rattle.std.proofs.Common.{◌∙◌, ap, Some, sym, arith}
use Rattle.msp_class.proofs.RankLemmas.{rank_of-below, rank_of-injective}
use Rattle.msp_class.proofs.ranks.unrank.Goals as goal

pub returns-else-n-lt-CLASSES-clause-only : goal.returns-else-n-lt-CLASSES-clause-only
returns-else-n-lt-CLASSES-clause-only c = λ d e. absurd (omega (arith, rank_of-below d))

pub returns-then-n-lt-CLASSES-clause-only : goal.returns-then-n-lt-CLASSES-clause-only
returns-then-n-lt-CLASSES-clause-only c = λ d e. ap Some (rank_of-injective c.class_at.result d (c.class_at.ensures ∙ sym e))
