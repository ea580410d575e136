use Rattle.msp_pieces.specs.Within.{IsMoment}
use Rattle.msp_schedule.proofs.judging.JobShares.{shared, unrouted_none, unrouted_some}
use Rattle.msp_schedule.proofs.shares.unrouted_in.Goals as goal

pub first_unrouted-requires : goal.first_unrouted-requires
first_unrouted-requires c = record { moments = shared c.args.pieces.now c.args.job (λ p. IsMoment p.from × IsMoment p.to) _ c.share.ensures c.requires.moments }

pub returns-clause-none : goal.returns-clause-none
returns-clause-none c = λ e. unrouted_none c.args.pieces.now c.args.job _ c.args.ops c.share.ensures (c.first_unrouted.ensures.none e)

pub returns-clause-some : goal.returns-clause-some
returns-clause-some c = unrouted_some c.args.pieces.now c.args.job _ c.args.ops c.first_unrouted.result c.share.ensures c.first_unrouted.ensures.some
