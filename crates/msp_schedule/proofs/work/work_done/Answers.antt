use Rattle.std.proofs.Common.{refl, arith}
use Rattle.std.proofs.lemmas.Int.{ints}
use Rattle.msp_class.specs.Env.{kind_of}
use Rattle.msp_pieces.specs.Feasible.{work_of}
use Rattle.msp_schedule.proofs.judging.Among.{SumsTo-next}
use Rattle.msp_schedule.proofs.work.work_done.Goals as goal
use Rattle.msp_pieces.specs.Within.{greatest_work}

pub loop-piece-preserved : goal.loop-piece-preserved
loop-piece-preserved c =
    SumsTo-next (work_of (kind_of c.args.inst.now.class.env) c.args.inst.now) c.args.pieces.now c.loop-piece.piece-index
    c.args.job c.args.op greatest_work _ _ _ c.added-sum.result _ c.loop-piece-test.true refl c.added-sum.ensures.value c.added-sum.ensures.size
    (let inv = c.loop-piece.invariant.1 in let s = c.added-sum.ensures.size in let few = c.requires.few in let t = c.loop-piece-test.true in omega (arith, ints)) c.loop-piece.invariant
