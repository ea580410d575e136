-- How the text of a schedule is read: line by line, and in a line from left to right, up to the first fault.
use Rattle.std.specs.Prelude.{◌≡◌, ℕ, ◌==◌, nat_lt, if◌then◌else◌, List, [], ◌∷◌, ◌++◌, length, Result, Ok, Err, codes, bytes_eq, ℤ, pos, unsigned_abs}
use Rattle.msp_class.specs.declared.sizes.TheConstants.{MOST_MACHINES, MOST_OPERATIONS, MOST_PIECES, GREATEST_UNIT}
use Rattle.msp_pieces.specs.declared.limits.TheConstants.{GREATEST_MOMENT}
use Rattle.msp_pieces.specs.declared.Piece.{Piece}
use Rattle.msp_pieces.specs.declared.Schedule.{Schedule}
use Rattle.msp_grammar.specs.declared.limits.TheConstants.{GREATEST_COST}
use Rattle.msp_grammar.specs.declared.lines.fault.What.TheVariants as what
use Rattle.msp_grammar.specs.declared.lines.fault.FileFault.{FileFault}
use Rattle.msp_grammar.specs.declared.lines.fault.FileFault.TheVariants.{Count, Limit}
use Rattle.msp_grammar.specs.declared.filed.Stated.{Stated}
use Rattle.msp_grammar.specs.lines.Reading.{◌>>=◌, provided, Place, line_at, fields_of, first_of, others_of, word_line_at, natural_at, ordinal_at, known_at, number_line_at}
use Rattle.msp_grammar.specs.lines.Reading.{LineRead, more_read, end_at, lines_from, all_of}
use Rattle.msp_grammar.specs.lines.Answers.{seen}
use Rattle.msp_grammar.specs.lines.Steps.{parts_of}
use Rattle.msp_grammar.specs.lines.Costs.{cost_line_at}

-- The first line.
abbrev pub title_at : Place → Result Place FileFault
title_at place = word_line_at (codes "schedule") place

abbrev pub cost_at : Place → Result ((ℤ × ℤ) × Place) FileFault
cost_at place = cost_line_at (codes "cost") GREATEST_COST place

-- ---- the unit and the pieces

unfoldable pub unit_at : Place → Result (ℤ × Place) FileFault
unit_at place = do
  unit ← number_line_at (codes "unit") what.Unit (unsigned_abs GREATEST_UNIT) place
  Ok (pos unit.0, unit.1)

unfoldable pub moment_at : ℕ → List ℕ → Result ℤ FileFault
moment_at at field = do
  moment ← natural_at at what.Moment 0 (unsigned_abs GREATEST_MOMENT) field
  Ok (pos moment)

-- The moments between which a piece runs.
unfoldable pub span_at : ℕ → List (List ℕ) → Result (ℤ × ℤ) FileFault
span_at at fields = do
  from ← moment_at at (first_of fields)
  to ← moment_at at (first_of (others_of fields))
  Ok (from, to)

-- The operation and the machine of a piece, and the fields after them.
unfoldable pub place_at : ℕ → List (List ℕ) → Result (ℕ × ℕ × List (List ℕ)) FileFault
place_at at fields = do
  op ← ordinal_at at what.Place MOST_OPERATIONS (first_of fields)
  machine ← ordinal_at at what.Place MOST_MACHINES (first_of (others_of fields))
  Ok (op, machine, others_of (others_of fields))

-- A piece of one of the named jobs.
unfoldable pub piece_at : List (List ℕ) → ℕ → List (List ℕ) → Result Piece FileFault
piece_at names at fields = do
  job ← known_at at names (first_of fields)
  place ← place_at at (others_of fields)
  span ← span_at at place.2
  Ok (record { job = job; op = place.0; machine = place.1; from = span.0; to = span.1 })

-- The piece whose line has these fields, after the pieces so far.
unfoldable pub piece_line_at : List (List ℕ) → ℕ → List Piece → List (List ℕ) → Result (List Piece) FileFault
piece_line_at names at pieces fields =
    provided (nat_lt (length pieces) MOST_PIECES) (Limit at what.Pieces) (
    provided (length fields == 5) (Count at) (do
      piece ← piece_at names at fields
      Ok (pieces ++ piece ∷ [])))

-- A line after the unit.
unfoldable pub piece_step : List (List ℕ) → List Piece → Place → Result (LineRead (List Piece)) FileFault
piece_step names pieces place = do
  line ← line_at place
  if bytes_eq (first_of (fields_of line.0)) (codes "piece")
      then (piece_line_at names place.at pieces (others_of (fields_of line.0)) >>= λ more. Ok (more_read more line.1))
      else end_at place.at pieces (fields_of line.0) line.1

-- ---- the whole

-- What a schedule and its cost say: the numbers of the cost, and the schedule.
abbrev pub said_of : Stated → (ℤ × ℤ) × Schedule
said_of s = (parts_of s.cost, s.schedule)

-- The lines from a place on: those of one schedule, up to the place after them, or up to the first fault.
unfoldable pub stated_at : List (List ℕ) → Place → Result (((ℤ × ℤ) × Schedule) × Place) FileFault
stated_at names place = do
  place ← title_at place
  cost ← cost_at place
  unit ← unit_at cost.1
  pieces ← lines_from (piece_step names) [] unit.1
  Ok ((cost.0, record { unit = unit.0; pieces = pieces.0 }), pieces.1)

-- The lines of a text, the first of which has this number: those of one schedule of the named jobs and no more, or up to the first
-- fault.
abbrev pub schedule_at : List (List ℕ) → ℕ → List ℕ → Result ((ℤ × ℤ) × Schedule) FileFault
schedule_at names line bytes = stated_at names (record { at = line; rest = bytes }) >>= all_of

-- The lines are read so.
abbrev pub ReadsSchedule : List (List ℕ) → ℕ → List ℕ → Result Stated FileFault → Type 0
ReadsSchedule names line bytes read = schedule_at names line bytes ≡ seen said_of read
