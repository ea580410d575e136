-- The goals of `put_pieces` that are proved by lemmas.
use Rattle.msp_grammar.specs.ScheduleText.{piece_line}
use Rattle.msp_grammar.proofs.PrintLemmas.{put_lines}
use Rattle.msp_grammar.proofs.schedule_printer.put_pieces.Goals as goal

pub loop-piece-preserved : goal.loop-piece-preserved
loop-piece-preserved c = put_lines (piece_line c.args.names.now) c.args.pieces.now c.loop-piece.piece-index _ _ _ _ c.loop-piece-test.true c.in_ok-put_piece.ensures c.loop-piece.invariant
