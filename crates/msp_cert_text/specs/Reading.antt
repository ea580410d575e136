-- How the text of a certificate is read: line by line, and in a line from left to right, up to the first fault.
use Rattle.std.specs.Prelude.{◌≡◌, ℕ, ◌+◌, ◌-◌, ◌*◌, Bool, ◌==◌, ◌&&◌, ◌||◌, not, nat_le, nat_lt, if◌then◌else◌, List, [], ◌∷◌, ◌++◌, length, replicate, Option, Some, None, Result}
use Rattle.std.specs.Prelude.{Ok, Err, ok_or, codes, bytes_eq, ℤ, pos, int_lt}
use Rattle.msp_cert.specs.declared.Proof.{Proof}
use Rattle.msp_cert.specs.declared.Proof.TheVariants as proof
use Rattle.msp_cert.specs.declared.Certificate.{Certificate}
use Rattle.msp_grammar.specs.declared.lines.fault.What.TheVariants as what
use Rattle.msp_grammar.specs.declared.lines.fault.FileFault.{FileFault}
use Rattle.msp_grammar.specs.declared.lines.fault.FileFault.TheVariants.{Count, Key, Limit, Again, Unknown}
use Rattle.msp_cert_text.specs.declared.kinds.Kind.{Kind}
use Rattle.msp_cert_text.specs.declared.kinds.Kind.TheVariants as kind
use Rattle.msp_cert.specs.declared.limits.TheConstants.{GREATEST_HEAD, GREATEST_PRICE}
use Rattle.msp_cert_text.specs.declared.kinds.TheConstants.{GREATEST_BOUND, GREATEST_LEVEL, MOST_LINES}
use Rattle.msp_cert_text.specs.CertificateText.{kind_word, segment_lines, column_lines}
use Rattle.msp_grammar.specs.lines.Reading.{◌>>=◌, provided, Place, line_at, fields_of, first_of, others_of, worded_at, word_line_at, field_line_at, natural_at, integer_at}
use Rattle.msp_grammar.specs.lines.Reading.{job_name_at, known_at, ordinal_at, machine_at, LineRead, more_read, end_at, goes_on, lines_from, all_of}
use Rattle.msp_grammar.specs.lines.Answers.{seen}
use Rattle.msp_grammar.specs.lines.Steps.{parts_of}
use Rattle.msp_grammar.specs.lines.Costs.{cost_line_at}

-- ---- the first lines

-- The kind of a word.
abbrev pub kind_in : List ℕ → Option Kind
kind_in w =
    if bytes_eq w (kind_word kind.Group) then Some kind.Group
    else if bytes_eq w (kind_word kind.Machine) then Some kind.Machine
    else if bytes_eq w (kind_word kind.Line) then Some kind.Line
    else if bytes_eq w (kind_word kind.Levels) then Some kind.Levels
    else if bytes_eq w (kind_word kind.Segments) then Some kind.Segments
    else if bytes_eq w (kind_word kind.Block) then Some kind.Block
    else if bytes_eq w (kind_word kind.Prices) then Some kind.Prices
    else None

unfoldable pub kind_at : Place → Result (Kind × Place) FileFault
kind_at place = do
  line ← field_line_at (codes "kind") place
  kind ← ok_or (kind_in line.0) (Key place.at)
  Ok (kind, line.1)

-- ---- lines that are demanded

unfoldable pub machine_line_at : ℕ → Place → Result (ℕ × Place) FileFault
machine_line_at machines place = do
  line ← field_line_at (codes "machine") place
  machine ← machine_at place.at machines line.0
  Ok (machine, line.1)

unfoldable pub job_line_of : List (List ℕ) → Place → Result (ℕ × Place) FileFault
job_line_of names place = do
  line ← field_line_at (codes "job") place
  job ← known_at place.at names line.0
  Ok (job, line.1)

unfoldable pub tail_at : Place → Result (ℕ × Place) FileFault
tail_at place = do
  line ← field_line_at (codes "tail") place
  tail ← natural_at place.at what.Level 0 GREATEST_LEVEL line.0
  Ok (tail, line.1)

-- The field behind the name in the line that the job of this name has. So many lines of the kind stand before it.
unfoldable pub named_field_at : ℕ → List ℕ → ℕ → List (List ℕ) → Result (List ℕ) FileFault
named_field_at before name at fields =
    provided (nat_lt before MOST_LINES) (Limit at what.Lines) (
    provided (length fields == 2) (Count at) (do
      given ← job_name_at at (first_of fields)
      provided (bytes_eq given name) (Unknown at) (Ok (first_of (others_of fields)))))

unfoldable pub named_line_at : List ℕ → ℕ → List ℕ → Place → Result (List ℕ × Place) FileFault
named_line_at word before name place = do
  line ← worded_at word place
  field ← named_field_at before name place.at line.0
  Ok (field, line.1)

-- Such a line for each of these jobs in order, after the numbers so far. So many lines of the kind stand before the first one.
unfoldable pub numbers_at : {A : Type 0} → (ℕ → List ℕ → Result A FileFault) → List ℕ → ℕ → List A → List (List ℕ) → Place → Result (List A × Place) FileFault
numbers_at read word before numbers [] place = Ok (numbers, place)
numbers_at read word before numbers (name ∷ names) place = do
  line ← named_line_at word (before + length numbers) name place
  number ← read place.at line.0
  numbers_at read word before (numbers ++ number ∷ []) names line.1

abbrev pub level_at : ℕ → List ℕ → Result ℕ FileFault
level_at at field = natural_at at what.Level 0 GREATEST_LEVEL field

abbrev pub head_at : ℕ → List ℕ → Result ℕ FileFault
head_at at field = natural_at at what.Head 0 GREATEST_HEAD field

abbrev pub price_at : ℕ → List ℕ → Result ℤ FileFault
price_at at field = integer_at at what.Price GREATEST_PRICE field

-- ---- lines up to the end

-- A line up to the last one: one that may stand here adds to what is read. So many lines of the kind stand before it.
abbrev pub kind_step : {A : Type 0} → ℕ → Bool → (ℕ → A → List (List ℕ) → Result A FileFault) → A → ℕ → List (List ℕ) → Place → Result (LineRead A) FileFault
kind_step before may add draft at fields place =
    if may
    then (provided (nat_lt before MOST_LINES) (Limit at what.Lines) (add at draft (others_of fields)) >>= λ more. Ok (more_read more place))
    else end_at at draft fields place

-- The job in the line with these fields.
unfoldable pub job_in : List (List ℕ) → ℕ → List (List ℕ) → Result ℕ FileFault
job_in names at fields = provided (length fields == 1) (Count at) (known_at at names (first_of fields))

-- A job, after those so far.
unfoldable pub job_added : List (List ℕ) → ℕ → List ℕ → List (List ℕ) → Result (List ℕ) FileFault
job_added names at jobs fields = do
  job ← job_in names at fields
  Ok (jobs ++ job ∷ [])

abbrev pub jobs_by : List (List ℕ) → ℕ → List ℕ → ℕ → List (List ℕ) → Place → Result (LineRead (List ℕ)) FileFault
jobs_by names before jobs at fields place = kind_step (before + length jobs) (bytes_eq (first_of fields) (codes "job")) (job_added names) jobs at fields place

unfoldable pub jobs_step : List (List ℕ) → ℕ → List ℕ → Place → Result (LineRead (List ℕ)) FileFault
jobs_step names before jobs place = do
  line ← line_at place
  jobs_by names before jobs place.at (fields_of line.0) line.1

-- The lists with the job at the end of the last one.
abbrev pub with_job : List (List ℕ) → ℕ → List (List ℕ)
with_job [] j = []
with_job (jobs ∷ []) j = (jobs ++ j ∷ []) ∷ []
with_job (jobs ∷ more ∷ lists) j = jobs ∷ with_job (more ∷ lists) j

-- A list begins, or a job comes to the last one.
unfoldable pub segment_added : List (List ℕ) → List ℕ → ℕ → List (List ℕ) → List (List ℕ) → Result (List (List ℕ)) FileFault
segment_added names word at lists fields =
    if bytes_eq word (codes "segment")
    then provided (length fields == 0) (Count at) (Ok (lists ++ [] ∷ []))
    else (job_in names at fields >>= λ job. Ok (with_job lists job))

-- Jobs stand only after the beginning of a list.
abbrev pub is_segment_word : List (List ℕ) → List ℕ → Bool
is_segment_word lists word = bytes_eq word (codes "segment") || (not (length lists == 0) && bytes_eq word (codes "job"))

abbrev pub segments_by : List (List ℕ) → List (List ℕ) → ℕ → List (List ℕ) → Place → Result (LineRead (List (List ℕ))) FileFault
segments_by names lists at fields place = kind_step (length (segment_lines names lists)) (is_segment_word lists (first_of fields)) (segment_added names (first_of fields)) lists at fields place

unfoldable pub segments_step : List (List ℕ) → List (List ℕ) → Place → Result (LineRead (List (List ℕ))) FileFault
segments_step names lists place = do
  line ← line_at place
  segments_by names lists place.at (fields_of line.0) line.1

-- The prices with as many at the end, each 0, as make them so many.
abbrev pub filled : ℕ → List ℤ → List ℤ
filled count prices = prices ++ replicate (count - length prices) (pos 0)

-- The number of a position among those of all machines, each of which has as many as there are jobs, by its machine and its place there.
unfoldable pub position_at : ℕ → ℕ → ℕ → List (List ℕ) → Result ℕ FileFault
position_at jobs machines at fields = do
  machine ← machine_at at machines (first_of fields)
  place ← ordinal_at at what.Place jobs (first_of (others_of fields))
  Ok (machine * jobs + place)

-- The price of a position, which is less than 0.
unfoldable pub column_price_at : ℕ → List ℕ → Result ℤ FileFault
column_price_at at field = do
  price ← price_at at field
  provided (int_lt price (pos 0)) (Limit at what.Price) (Ok price)

-- The price of a position behind those so far.
unfoldable pub column_added : ℕ → ℕ → ℕ → List ℤ → List (List ℕ) → Result (List ℤ) FileFault
column_added jobs machines at prices fields = provided (length fields == 3) (Count at) (do
  position ← position_at jobs machines at fields
  price ← column_price_at at (first_of (others_of (others_of fields)))
  provided (nat_le (length prices) position) (Again at) (Ok (filled position prices ++ price ∷ [])))

abbrev pub columns_by : ℕ → ℕ → ℕ → List ℤ → ℕ → List (List ℕ) → Place → Result (LineRead (List ℤ)) FileFault
columns_by jobs machines before prices at fields place =
    kind_step (before + length (column_lines jobs 0 prices)) (bytes_eq (first_of fields) (codes "column")) (column_added jobs machines) prices at fields place

unfoldable pub columns_step : ℕ → ℕ → ℕ → List ℤ → Place → Result (LineRead (List ℤ)) FileFault
columns_step jobs machines before prices place = do
  line ← line_at place
  columns_by jobs machines before prices place.at (fields_of line.0) line.1

-- The lines of lists: the first of them begins one.
abbrev pub segments_from : List (List ℕ) → Place → Result (List (List ℕ) × Place) FileFault
segments_from names place = segments_step names [] place >>= goes_on None (lines_from (segments_step names))

-- ---- the lines after the kind

unfoldable pub group_proof : List (List ℕ) → Place → Result (Proof × Place) FileFault
group_proof names place = do
  jobs ← lines_from (jobs_step names 0) [] place
  Ok (proof.Group jobs.0, jobs.1)

unfoldable pub machine_proof : ℕ → Place → Result (Proof × Place) FileFault
machine_proof machines place = do
  machine ← machine_line_at machines place
  place ← word_line_at (codes "end") machine.1
  Ok (proof.Machine machine.0, place)

unfoldable pub line_proof : List (List ℕ) → Place → Result (Proof × Place) FileFault
line_proof names place = do
  job ← job_line_of names place
  place ← word_line_at (codes "end") job.1
  Ok (proof.Line job.0, place)

unfoldable pub levels_proof : List (List ℕ) → Place → Result (Proof × Place) FileFault
levels_proof names place = do
  tail ← tail_at place
  level ← numbers_at level_at (codes "level") 1 [] names tail.1
  place ← word_line_at (codes "end") level.1
  Ok (proof.Levels level.0 tail.0, place)

unfoldable pub segments_proof : List (List ℕ) → Place → Result (Proof × Place) FileFault
segments_proof names place = do
  lists ← segments_from names place
  Ok (proof.Segments lists.0, lists.1)

unfoldable pub block_proof : List (List ℕ) → Place → Result (Proof × Place) FileFault
block_proof names place = do
  head ← numbers_at head_at (codes "head") 0 [] names place
  jobs ← lines_from (jobs_step names (length head.0)) [] head.1
  Ok (proof.Block head.0 jobs.0, jobs.1)

unfoldable pub prices_proof : List (List ℕ) → ℕ → Place → Result (Proof × Place) FileFault
prices_proof names machines place = do
  row ← numbers_at price_at (codes "row") 0 [] names place
  column ← lines_from (columns_step (length names) machines (length row.0)) [] row.1
  Ok (proof.Prices row.0 (filled (machines * length names) column.0), column.1)

-- The lines after the one with the kind: those of a proof of this kind and the last one, or up to the first fault.
abbrev pub proof_at : List (List ℕ) → ℕ → Kind → Place → Result (Proof × Place) FileFault
proof_at names machines kind.Group place = group_proof names place
proof_at names machines kind.Machine place = machine_proof machines place
proof_at names machines kind.Line place = line_proof names place
proof_at names machines kind.Levels place = levels_proof names place
proof_at names machines kind.Segments place = segments_proof names place
proof_at names machines kind.Block place = block_proof names place
proof_at names machines kind.Prices place = prices_proof names machines place

-- ---- the whole

-- What a certificate says: the numbers of its bound, and its proof.
abbrev pub said_of : Certificate → (ℤ × ℤ) × Proof
said_of c = (parts_of c.bound, c.proof)

-- The lines after that of the bound.
unfoldable pub evidence_at : List (List ℕ) → ℕ → ℤ × ℤ → Place → Result (((ℤ × ℤ) × Proof) × Place) FileFault
evidence_at names machines bound place = do
  kind ← kind_at place
  proof ← proof_at names machines kind.0 kind.1
  Ok ((bound, proof.0), proof.1)

-- The lines from a place on: those of one certificate, up to the place after them, or up to the first fault.
unfoldable pub certified_at : List (List ℕ) → ℕ → Place → Result (((ℤ × ℤ) × Proof) × Place) FileFault
certified_at names machines place = do
  place ← word_line_at (codes "certificate") place
  bound ← cost_line_at (codes "bound") GREATEST_BOUND place
  evidence_at names machines bound.0 bound.1

-- The lines of a text, the first of which has this number: those of one certificate for an instance with these names of jobs and so
-- many machines and no more, or up to the first fault.
abbrev pub certificate_at : List (List ℕ) → ℕ → ℕ → List ℕ → Result ((ℤ × ℤ) × Proof) FileFault
certificate_at names machines line bytes = certified_at names machines (record { at = line; rest = bytes }) >>= all_of

-- They are read so.
abbrev pub ReadsCertificate : List (List ℕ) → ℕ → ℕ → List ℕ → Result Certificate FileFault → Type 0
ReadsCertificate names machines line bytes read = certificate_at names machines line bytes ≡ seen said_of read
