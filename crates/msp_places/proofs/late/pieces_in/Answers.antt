use Rattle.msp_assign.specs.Prices.{column_of}
use Rattle.msp_places.proofs.MostSteps.{piece_next}
use Rattle.msp_places.proofs.late.pieces_in.Goals as goal

pub loop-job-preserved : goal.loop-job-preserved
loop-job-preserved c = piece_next c.args.places.now (λ j. j)
    (column_of c.args.column.now) c.loop-job.job c.put.new.self c.loop-job.pieces _ c.in_ok-put.ensures.put c.piece_in-next.ensures c.loop-job.invariant
