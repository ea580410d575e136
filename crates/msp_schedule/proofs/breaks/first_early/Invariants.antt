-- The pieces so far begin at their jobs' release dates or later.
use Rattle.std.proofs.Common.{ℕ, ◌<◌, pos, ◌*ℤ◌, ◌≤ℤ◌}
use Rattle.msp_instance.specs.Instance.{job_at}
use Rattle.msp_pieces.specs.Piece.{piece_at}
use Rattle.msp_schedule.proofs.breaks.first_early.Given as goal

abbrev pub invariant-loop-at : goal.invariant-loop-at
invariant-loop-at l = (k : ℕ) → k < l.at → (l.unit *ℤ pos (job_at l.inst (piece_at l.pieces k).job).release) ≤ℤ (piece_at l.pieces k).from
