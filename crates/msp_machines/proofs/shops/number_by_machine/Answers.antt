-- One more piece has the number.
use Rattle.std.proofs.Common.{refl, pos}
use Rattle.msp_pieces.specs.declared.Piece.{Piece}
use Rattle.msp_machines.specs.Shops.{with_number, machine_number}
use Rattle.msp_route.proofs.InPlace.{changed_next}
use Rattle.msp_machines.proofs.shops.number_by_machine.Goals as goal

abbrev no_piece : Piece
no_piece = record { job = 0; op = 0; machine = 0; from = pos 0; to = pos 0 }

pub loop-piece-preserved : goal.loop-piece-preserved
loop-piece-preserved c = changed_next (with_number machine_number) c.args.pieces.now c.loop-piece.pieces c.loop-piece.piece-index no_piece _ c.loop-piece-test.true c.loop-piece.invariant refl
