-- How the lines of a text and their fields are read, from left to right, up to the first fault.
use Rattle.std.specs.Prelude.{◌≡◌, ℕ, zero, suc, ◌+◌, ◌-◌, Bool, true, false, ◌&&◌, ◌==◌, nat_le, List, [], ◌∷◌, length, take, drop, Option, Some, None, Result, Ok, Err, ok_or, position, codes}
use Rattle.std.specs.Prelude.{bytes_eq, ℤ, pos, negsuc, unsigned_abs}
use Rattle.std.specs.List.{slice_split, list_all}
use Rattle.msp_text.specs.declared.job_name.TheConstants.{LONGEST_NAME}
use Rattle.msp_text.specs.JobName.{is_name_byte}
use Rattle.msp_grammar.specs.declared.lines.fault.What.{What}
use Rattle.msp_grammar.specs.declared.lines.fault.What.TheVariants as what
use Rattle.msp_grammar.specs.declared.lines.fault.FileFault.{FileFault}
use Rattle.msp_grammar.specs.declared.lines.fault.FileFault.TheVariants.{Missing, Cut, Line, Count, Name, Number, Limit, Unknown, After}
use Rattle.msp_text.specs.Bytes.{line_feed_byte, space_byte}
use Rattle.msp_text.specs.Numbers.{number_of}

-- the next step, or the fault
infixl 10 ◌>>=◌
abbrev pub ◌>>=◌ : {A B : Type 0} → Result A FileFault → (A → Result B FileFault) → Result B FileFault
(Ok value) >>= next = next value
(Err fault) >>= next = Err fault

-- what comes next where the test holds, or else the fault
abbrev pub provided : {A : Type 0} → Bool → FileFault → Result A FileFault → Result A FileFault
provided true fault next = next
provided false fault next = Err fault

-- What is left of a text: the number of the next line, from 1, and the bytes.
pub record Place : Type 0 where
  pub at : ℕ
  pub rest : List ℕ

-- ---- lines and fields

-- The next line, without its line feed.
unfoldable pub line_at : Place → Result (List ℕ × Place) FileFault
line_at place =
    elim (position (λ byte. byte == line_feed_byte) place.rest) [
      | Some length ↦ Ok (take length place.rest, record { at = place.at + 1; rest = drop (length + 1) place.rest })
      | None ↦ Err (elim place.rest [ [] ↦ Missing place.at | _ ∷ _ ↦ Cut place.at ])
    ]

-- The fields of a line.
abbrev pub fields_of : List ℕ → List (List ℕ)
fields_of line = slice_split (λ byte. byte == space_byte) line

abbrev pub first_of : List (List ℕ) → List ℕ
first_of [] = []
first_of (field ∷ others) = field

abbrev pub others_of : List (List ℕ) → List (List ℕ)
others_of [] = []
others_of (field ∷ others) = others

-- The fields after the first word of the line that has to come next.
unfoldable pub worded_at : List ℕ → Place → Result (List (List ℕ) × Place) FileFault
worded_at word place = do
  line ← line_at place
  provided (bytes_eq (first_of (fields_of line.0)) word) (Line place.at) (Ok (others_of (fields_of line.0), line.1))

-- A line of one word.
unfoldable pub word_line_at : List ℕ → Place → Result Place FileFault
word_line_at word place = do
  line ← worded_at word place
  provided (length line.0 == 0) (Count place.at) (Ok line.1)

-- The field of a line with one field behind its word.
unfoldable pub field_line_at : List ℕ → Place → Result (List ℕ × Place) FileFault
field_line_at word place = do
  line ← worded_at word place
  provided (length line.0 == 1) (Count place.at) (Ok (first_of line.0, line.1))

-- ---- fields by their kinds

-- A number in range, with the quantity that it is of.
abbrev pub natural_in : ℕ → What → ℕ → ℕ → ℤ → Result ℕ FileFault
natural_in at quantity least greatest (pos number) = provided (nat_le least number && nat_le number greatest) (Limit at quantity) (Ok number)
natural_in at quantity least greatest (negsuc size) = Err (Limit at quantity)

unfoldable pub natural_at : ℕ → What → ℕ → ℕ → List ℕ → Result ℕ FileFault
natural_at at quantity least greatest field = ok_or (number_of field) (Number at) >>= natural_in at quantity least greatest

-- A number of at most this size, of either sign.
unfoldable pub integer_at : ℕ → What → ℕ → List ℕ → Result ℤ FileFault
integer_at at quantity greatest field = do
  number ← ok_or (number_of field) (Number at)
  provided (nat_le (unsigned_abs number) greatest) (Limit at quantity) (Ok number)

-- The name of a job.
abbrev pub is_name_text : List ℕ → Bool
is_name_text [] = false
is_name_text (byte ∷ bytes) = list_all is_name_byte (byte ∷ bytes)

unfoldable pub job_name_at : ℕ → List ℕ → Result (List ℕ) FileFault
job_name_at at field = provided (is_name_text field) (Name at) (provided (nat_le (length field) LONGEST_NAME) (Limit at what.Name) (Ok field))

-- The name of one of these jobs: the job's number, from 0.
unfoldable pub known_at : ℕ → List (List ℕ) → List ℕ → Result ℕ FileFault
known_at at names field = do
  name ← job_name_at at field
  ok_or (position (bytes_eq name) names) (Unknown at)

-- A number of so many, which texts count from 1.
unfoldable pub ordinal_at : ℕ → What → ℕ → List ℕ → Result ℕ FileFault
ordinal_at at quantity most field = do
  number ← natural_at at quantity 1 most field
  Ok (number - 1)

-- The number of a machine.
abbrev pub machine_at : ℕ → ℕ → List ℕ → Result ℕ FileFault
machine_at at machines field = ordinal_at at what.Machines machines field

-- What a line was, with what is read up to it and the place after it: a job with all its lines, one of the lines that may follow each
-- other up to the end, or the end.
pub data LineRead (A : Type 0) : Type 0 where
  job_read : A → Place → LineRead A
  more_read : A → Place → LineRead A
  end_read : A → Place → LineRead A

-- The last line.
abbrev pub last_at : ℕ → List (List ℕ) → Result (Unit {0}) FileFault
last_at at fields = provided (bytes_eq (first_of fields) (codes "end")) (Line at) (provided (length fields == 1) (Count at) (Ok tt))

-- The same, with what is read up to it.
abbrev pub end_at : {A : Type 0} → ℕ → A → List (List ℕ) → Place → Result (LineRead A) FileFault
end_at at draft fields place = provided (bytes_eq (first_of fields) (codes "end")) (Line at) (provided (length fields == 1) (Count at) (Ok (end_read draft place)))

-- What comes after a line: lines that may follow each other up to the end are read in the other way, where there is one.
abbrev pub goes_on : {A : Type 0} → Option (A → Place → Result (A × Place) FileFault) → (A → Place → Result (A × Place) FileFault) → LineRead A → Result (A × Place) FileFault
goes_on other next (job_read more place) = next more place
goes_on None next (more_read more place) = next more place
goes_on (Some last) next (more_read more place) = last more place
goes_on other next (end_read all place) = Ok (all, place)

-- Lines by one step each, up to the end or a fault: at most so many.
unfoldable pub lines_by : {A : Type 0} → (A → Place → Result (LineRead A) FileFault) → Option (A → Place → Result (A × Place) FileFault) → ℕ → A → Place → Result (A × Place) FileFault
lines_by step other zero draft place = Err (Missing place.at)
lines_by step other (suc most) draft place = step draft place >>= goes_on other (lines_by step other most)

-- All of them: each has a byte.
abbrev pub lines_from : {A : Type 0} → (A → Place → Result (LineRead A) FileFault) → A → Place → Result (A × Place) FileFault
lines_from step draft place = lines_by step None (suc (length place.rest)) draft place

-- A line with one number of at least 1 behind its word.
unfoldable pub number_line_at : List ℕ → What → ℕ → Place → Result (ℕ × Place) FileFault
number_line_at word quantity greatest place = do
  line ← worded_at word place
  provided (length line.0 == 1) (Count place.at) (do
    number ← natural_at place.at quantity 1 greatest (first_of line.0)
    Ok (number, line.1))

-- What was read is all, if nothing follows it.
abbrev pub all_of : {A : Type 0} → A × Place → Result A FileFault
all_of x = provided (length x.1.rest == 0) (After x.1.at) (Ok x.0)

-- What was read, whatever follows it.
abbrev pub front_of : {A : Type 0} → A × Place → Result A FileFault
front_of x = Ok x.0
