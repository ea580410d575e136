-- What holds in the loop of `put_pieces`.
use Rattle.std.proofs.Common.{◌≡◌, ◌++◌, drop}
use Rattle.msp_grammar.specs.ScheduleText.{piece_lines}
use Rattle.msp_grammar.proofs.schedule_printer.put_pieces.Given as goal

abbrev pub invariant-loop-piece : goal.invariant-loop-piece
invariant-loop-piece l = l.out.items ++ piece_lines l.names (drop l.piece-index l.pieces) ≡ l.initial.out.items ++ piece_lines l.names l.pieces
