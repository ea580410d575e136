-- The sum fits its type.
use Rattle.std.proofs.Common.{rules}
use Rattle.msp_turn.proofs.Moments.{sum_fits, sum_is}
use Rattle.msp_turn.proofs.reversal.reach.Goals as goal

pub overflow_add-result : goal.overflow_add-result
overflow_add-result c = sum_fits c.args.piece.now.to c.args.s.now.unit c.args.job.now.release c.requires.moment c.requires.unit (search rules)

pub returns : goal.returns
returns c = sum_is c.args.piece.now.to c.args.s.now.unit c.args.job.now.release c.requires.moment c.requires.unit (search rules)
