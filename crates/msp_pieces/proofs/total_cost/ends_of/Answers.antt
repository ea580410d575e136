use Rattle.std.proofs.Common.{refl, rules}
use Rattle.msp_pieces.proofs.costs.Ends.{EndsOver-none, EndsOver-next}
use Rattle.msp_pieces.proofs.total_cost.ends_of.Goals as goal

pub loop-piece-init : goal.loop-piece-init
loop-piece-init c = EndsOver-none _ c.no_ends-ends.ensures

pub loop-piece-preserved : goal.loop-piece-preserved
loop-piece-preserved c =
    EndsOver-next c.loop-piece.ends c.raise.new.ends c.args.pieces.now c.loop-piece.piece-index _ _ c.loop-piece-test.true refl
    (search rules) (search rules) (search rules) c.raise.ensures c.loop-piece.invariant
