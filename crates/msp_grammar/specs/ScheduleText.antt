-- The text of a schedule.
use Rattle.std.specs.Prelude.{◌≡◌, ℕ, ◌+◌, ◌<◌, ◌≤◌, List, [], ◌∷◌, ◌++◌, length, slice_index_or, ℤ, pos, ◌≤ℤ◌, All, codes, decimal, if◌then◌else◌}
use Rattle.std.specs.Fmt.{signed_decimal}
use Rattle.std.specs.Ordering.{int_eq}
use Rattle.std.specs.List.{flat_map}
use Rattle.msp_class.specs.declared.sizes.TheConstants.{MOST_MACHINES, MOST_OPERATIONS, MOST_PIECES}
use Rattle.msp_instance.specs.Conditions.{LiesWithin}
use Rattle.msp_pieces.specs.declared.Piece.{Piece}
use Rattle.msp_pieces.specs.declared.Frac.{Frac}
use Rattle.msp_pieces.specs.declared.Schedule.{Schedule}
use Rattle.msp_pieces.specs.Within.{IsMoment, IsUnit}
use Rattle.msp_text.specs.Bytes.{line_feed_byte, space_byte}
use Rattle.msp_grammar.specs.declared.limits.TheConstants.{GREATEST_COST, GREATEST_DENOMINATOR}

-- The text that ends a line, and the one between two fields.
abbrev pub line_feed : List ℕ
line_feed = line_feed_byte ∷ []

abbrev pub space : List ℕ
space = space_byte ∷ []

-- The name of the job of a number, from 0.
abbrev pub name_at : List (List ℕ) → ℕ → List ℕ
name_at names j = slice_index_or names j []

-- A fraction: its numerator and, where it is not 1, its denominator.
abbrev pub fraction_text : Frac → List ℕ
fraction_text x = signed_decimal x.num ++ (if int_eq x.den (pos 1) then [] else codes "/" ++ signed_decimal x.den)

-- A spelling of a fraction: its numerator alone where its denominator is 1, or its numerator, `/` and its denominator.
pub data IsFractionText (x : Frac) (w : List ℕ) : Type 0 where
  alone : x.den ≡ pos 1 → w ≡ signed_decimal x.num → IsFractionText x w
  over : w ≡ signed_decimal x.num ++ codes "/" ++ signed_decimal x.den → IsFractionText x w

-- The line of a piece: the job's name, operation and machine from 1, and the moments between which it runs.
unfoldable pub piece_line : List (List ℕ) → Piece → List ℕ
piece_line names p =
    codes "piece "
    ++ name_at names p.job
    ++ space
    ++ decimal (p.op + 1)
    ++ space
    ++ decimal (p.machine + 1)
    ++ space
    ++ signed_decimal p.from
    ++ space
    ++ signed_decimal p.to
    ++ line_feed

abbrev pub piece_lines : List (List ℕ) → List Piece → List ℕ
piece_lines names pieces = flat_map (piece_line names) pieces

unfoldable pub cost_line : List ℕ → List ℕ
cost_line cost = codes "cost " ++ cost ++ line_feed

unfoldable pub unit_line : ℤ → List ℕ
unit_line unit = codes "unit " ++ signed_decimal unit ++ line_feed

-- The text of a schedule, with a spelling of its cost.
abbrev pub stated_text : List ℕ → List (List ℕ) → Schedule → List ℕ
stated_text cost names s =
    codes "schedule\n" ++ cost_line cost ++ unit_line s.unit ++ piece_lines names s.pieces ++ codes "end\n"

-- The text of a schedule and its cost, as it is printed.
unfoldable pub schedule_text : List (List ℕ) → Schedule → Frac → List ℕ
schedule_text names s x = stated_text (fraction_text x) names s

-- A cost within the limits of texts.
pub record IsStatedCost (x : Frac) : Type 0 where
  pub num : LiesWithin GREATEST_COST x.num
  pub den : (pos 1 ≤ℤ x.den) × (x.den ≤ℤ pos GREATEST_DENOMINATOR)

-- The piece is of a named job, and its numbers are within the limits of texts.
pub record IsStatedPiece (names : List (List ℕ)) (p : Piece) : Type 0 where
  pub job : p.job < length names
  pub op : p.op < MOST_OPERATIONS
  pub machine : p.machine < MOST_MACHINES
  pub from : IsMoment p.from
  pub to : IsMoment p.to

-- The schedule and its cost can be written as a text.
pub record IsStated (names : List (List ℕ)) (s : Schedule) (x : Frac) : Type 0 where
  pub cost : IsStatedCost x
  pub unit : IsUnit s.unit
  pub few : length s.pieces ≤ MOST_PIECES
  pub pieces : All (IsStatedPiece names) s.pieces

-- The bytes are a text of the schedule and its cost, which are within the limits of texts. The cost is written as it is, in lowest
-- terms or not.
pub record IsScheduleText (b : List ℕ) (names : List (List ℕ)) (s : Schedule) (x : Frac) : Type 0 where
  pub spelling : List ℕ
  pub spells : IsFractionText x spelling
  pub text : b ≡ stated_text spelling names s
  pub stated : IsStated names s x
