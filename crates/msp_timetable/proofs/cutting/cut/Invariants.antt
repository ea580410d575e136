use Rattle.std.proofs.Common.{◌≡◌, ℕ}
use Rattle.msp_timetable.specs.Square.{used_at}
use Rattle.msp_timetable.proofs.Cuts.{IsCutting}
use Rattle.msp_timetable.proofs.cutting.cut.Given as goal

-- the rows so far have lost their shares, counted for each row that loses all that it has in use
abbrev pub invariant-loop-row : goal.invariant-loop-row
invariant-loop-row l = (low : ℕ) → used_at l.initial.square l.columns low ≡ l.length → IsCutting l.initial.square l.columns l.length low l.square l.row
