-- How a cost is read.
use Rattle.std.specs.Prelude.{ℕ, ◌==◌, nat_le, List, [], ◌∷◌, Result, Ok, Err, ok_or, ℤ, pos, unsigned_abs}
use Rattle.std.specs.List.{slice_split}
use Rattle.msp_grammar.specs.declared.limits.TheConstants.{GREATEST_DENOMINATOR}
use Rattle.msp_text.specs.Bytes.{slash_byte}
use Rattle.msp_text.specs.Numbers.{number_of}
use Rattle.msp_grammar.specs.declared.lines.fault.What.TheVariants as what
use Rattle.msp_grammar.specs.declared.lines.fault.FileFault.{FileFault}
use Rattle.msp_grammar.specs.declared.lines.fault.FileFault.TheVariants.{Number, Limit}
use Rattle.msp_grammar.specs.lines.Reading.{◌>>=◌, provided, Place, first_of, others_of, field_line_at, natural_in}

-- ---- the cost

abbrev pub number_at : ℕ → List ℕ → Result ℤ FileFault
number_at at field = ok_or (number_of field) (Number at)

-- The denominator, in the parts of a fraction behind its first one. It is 1 where there is none.
abbrev pub denominator_at : ℕ → List (List ℕ) → Result ℤ FileFault
denominator_at at [] = Ok (pos 1)
denominator_at at (part ∷ []) = number_at at part
denominator_at at (part ∷ other ∷ parts) = Err (Number at)

-- A numerator of at most this size and a denominator that are in range.
abbrev pub cost_of : ℕ → ℕ → ℤ → ℤ → Result (ℤ × ℤ) FileFault
cost_of greatest at numerator denominator =
    provided (nat_le (unsigned_abs numerator) greatest) (Limit at what.Cost)
    (natural_in at what.Cost 1 GREATEST_DENOMINATOR denominator >>= λ size. Ok (numerator, pos size))

-- A cost, by its numerator and its denominator: a number, or two with `/` between them.
unfoldable pub cost_in : ℕ → ℕ → List ℕ → Result (ℤ × ℤ) FileFault
cost_in greatest at field = do
  numerator ← number_at at (first_of (slice_split (λ byte. byte == slash_byte) field))
  denominator ← denominator_at at (others_of (slice_split (λ byte. byte == slash_byte) field))
  cost_of greatest at numerator denominator

-- A cost in the line of this word, with a numerator of at most this size.
unfoldable pub cost_line_at : List ℕ → ℕ → Place → Result ((ℤ × ℤ) × Place) FileFault
cost_line_at word greatest place = do
  line ← field_line_at word place
  cost ← cost_in greatest place.at line.0
  Ok (cost, line.1)
