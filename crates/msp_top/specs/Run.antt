-- What a call of `run` leaves.
use Rattle.std.specs.Prelude.{◌≡◌, ◌≢◌, ◌↔◌, ℕ, ◌+◌, ◌<◌, ◌≤◌, ◌⊎◌, List, [], ◌∷◌, ◌++◌, length, take, map, codes, decimal, IfSome, Vec, String, string_bytes}
use Rattle.msp_io.specs.Faults.{Rose}
use Rattle.msp_io.specs.Views.{SourceView, SinkView}
use Rattle.msp_report.specs.RowsText.{rows_report}
use Rattle.msp_top.specs.declared.answers.TheConstants.{INPUT_LIMIT, CHECK_LIMIT}
use Rattle.msp_top.specs.declared.command.Command.{Command}
use Rattle.msp_top.specs.declared.command.Command.TheVariants.{Solve, Certify, Check, Accept, Answer}
use Rattle.msp_top.specs.declared.command.Trial.{Trial}
use Rattle.msp_top.specs.Commands.{Asks, AsksForRows, AsksForTrial, Misfits}
use Rattle.msp_top.specs.Usage.{usage_text}
use Rattle.msp_top.specs.Outcome.{Outcome, report, refusal}
use Rattle.msp_top.specs.Solves.{SolveIsRight}
use Rattle.msp_top.specs.Certifies.{CertifyIsRight}
use Rattle.msp_top.specs.Checks.{CheckIsRight}
use Rattle.msp_top.specs.Accepts.{AcceptIsRight}
use Rattle.msp_top.specs.Reports.{ReadsResults}
use Rattle.msp_top.specs.Trials.{TrialIsRight}

-- The words of a command line, as bytes.
abbrev pub spelled : {Z A : Type 0} → Vec (String Z) A → List (List ℕ)
spelled words = map string_bytes words.items

-- What passed in a call of `run`: what the source gave, and what the sink of the report took.
pub record Passed : Type 1 where
  -- these bytes were read, and no others, and no read met the end or failed
  pub gave : List ℕ → Type 0
  -- these bytes were read, and the last read, and no other, met the end
  pub finished : List ℕ → Type 0
  -- these bytes were read, and then a read failed
  pub broke : List ℕ → Type 0
  -- these bytes were written, and no write failed
  pub took : List ℕ → Type 0
  -- these bytes were written, and then a write failed
  pub broke_off : List ℕ → Type 0

-- What passed between two states of a source and two of a sink.
abbrev pub passed_between : {S K : Type 0} → (S → S → List ℕ → Type 0)
    → (S → S → List ℕ → Type 0) → (S → S → List ℕ → Type 0) → (K → K → List ℕ → Type 0) → (K → K → List ℕ → Type 0) → S → S → K → K → Passed
passed_between gave finished broke took broke_off source source_after out out_after = record {
  gave = gave source source_after;
  finished = finished source source_after;
  broke = broke source source_after;
  took = took out out_after;
  broke_off = broke_off out out_after;
}

-- The outcome is right for a command and an input within the limit.
abbrev pub IsRightWithin : Command → List ℕ → Outcome → Type 0
IsRightWithin (Solve at) input outcome = SolveIsRight input at outcome
IsRightWithin Certify input outcome = CertifyIsRight input outcome
IsRightWithin Check input outcome = CheckIsRight input outcome
IsRightWithin Accept input outcome = AcceptIsRight input outcome
IsRightWithin (Answer question) input outcome = ReadsResults question input outcome

-- The most bytes of an input.
abbrev pub limit_of : Command → ℕ
limit_of (Solve at) = INPUT_LIMIT
limit_of Certify = INPUT_LIMIT
limit_of Check = CHECK_LIMIT
limit_of Accept = CHECK_LIMIT
limit_of (Answer question) = INPUT_LIMIT

abbrev pub too_long_text : ℕ → List ℕ
too_long_text limit = codes "more than " ++ decimal limit ++ codes " bytes"

-- The outcome is right for a command and a whole input.
pub data IsRight (command : Command) (input : List ℕ) : Outcome → Type 0 where
  too_long : limit_of command < length input → IsRight command input (refusal 4 (too_long_text (limit_of command)))
  short : (outcome : Outcome) → length input ≤ limit_of command → IsRightWithin command input outcome → IsRight command input outcome

-- The report is right for the words: of the whole input, by a command that reads it to its end, or that of a trial or the table of rows,
-- for which nothing is read.
pub data IsRightReport (words : List (List ℕ)) (call : Passed) : ℕ → List ℕ → Type 0 where
  of_input : (command : Command) (input : List ℕ) (status : ℕ) (text : List ℕ)
      → Asks words command → call.finished input → IsRight command input (report status text) → IsRightReport words call status text
  of_trial : (trial : Trial) (status : ℕ) (text : List ℕ) → AsksForTrial words trial → TrialIsRight trial (report status text) → IsRightReport words call status text
  of_rows : AsksForRows words → IsRightReport words call 0 rows_report

-- A right report was written whole.
abbrev pub Reports : List (List ℕ) → Passed → ℕ → Type 0
Reports words call status = (text : List ℕ) × IsRightReport words call status text × call.took text

-- Only the front of a right report was written, and then a write failed.
pub record BreaksOff (words : List (List ℕ)) (call : Passed) : Type 0 where
  pub status : ℕ
  pub text : List ℕ
  pub count : ℕ
  pub right : IsRightReport words call status text
  pub short : count < length text
  pub part : call.broke_off (take count text)

-- The status and the note are the right refusal of the whole input, by a command that the words ask for, or that of a trial. An input is too
-- long exactly where one byte more than the limit was read, and then no more is.
pub data Refuses (words : List (List ℕ)) (call : Passed) : ℕ → List ℕ → Type 0 where
  input_refused : (command : Command) (input : List ℕ) (status : ℕ) (note : List ℕ) → Asks words command
      → call.finished input → length input ≤ limit_of command → IsRightWithin command input (refusal status note) → Refuses words call status note
  past_the_limit : (command : Command) (taken : List ℕ) → Asks words command → call.gave taken → length taken ≡ limit_of command + 1 → Refuses words call 4 (too_long_text (limit_of command))
  trial_refused : (trial : Trial) (status : ℕ) (note : List ℕ) → AsksForTrial words trial → TrialIsRight trial (refusal status note) → Refuses words call status note

-- At most so many bytes passed.
abbrev pub AtMost : (List ℕ → Type 0) → ℕ → Type 0
AtMost passed limit = (taken : List ℕ) × passed taken × (length taken ≤ limit)

-- A read for a command that the words ask for failed, before more was read than an input may have.
abbrev pub BreaksReading : List (List ℕ) → Passed → Type 0
BreaksReading words call = (command : Command) × Asks words command × AtMost call.broke (limit_of command)

-- These bytes were read, to the end or not, and no read failed.
abbrev pub was_read : Passed → List ℕ → Type 0
was_read call bytes = call.gave bytes ⊎ call.finished bytes

-- The text of the note for each status from 2 on.
pub data IsNote (words : List (List ℕ)) (call : Passed) : ℕ → List ℕ → Type 0 where
  misfit : IsNote words call 2 (usage_text words)
  refused : (status : ℕ) (note : List ℕ) → 3 ≤ status → status ≤ 6 → Refuses words call status note → IsNote words call status note
  read_fault : IsNote words call 7 (codes "cannot read")
  write_fault : IsNote words call 8 (codes "cannot write")
  memory : IsNote words call 9 (codes "out of memory")

-- A note is one line.
abbrev pub note_line : List ℕ → List ℕ
note_line text = codes "msp: " ++ text ++ (10 ∷ [])

-- The line of the note was written whole, or only the front of it, and then a write failed.
abbrev pub IsTold : (List ℕ → Type 0) → (List ℕ → Type 0) → List ℕ → Type 0
IsTold took broke text =
    took (note_line text) ⊎ ((count : ℕ) × (count < length (note_line text)) × broke (take count (note_line text)))

-- The status is that of a right outcome.
abbrev pub IsDue : Command → List ℕ → ℕ → Type 0
IsDue command input status = ((text : List ℕ) × IsRight command input (report status text)) ⊎ ((note : List ℕ) × IsRight command input (refusal status note))

abbrev pub IsTrialDue : Trial → ℕ → Type 0
IsTrialDue trial status = ((text : List ℕ) × TrialIsRight trial (report status text)) ⊎ ((note : List ℕ) × TrialIsRight trial (refusal status note))

-- What the status says of a call, and of the note that is told.
pub record IsServed (words : List (List ℕ)) (call : Passed) (told : List ℕ → Type 0) (status : ℕ) : Type 0 where
  pub known : status ≤ 9
  -- Status 2 comes exactly where the words fit no command.
  pub usage : (status ≡ 2) ↔ Misfits words
  -- A status below 2 comes with a right report of the whole input that was read.
  pub right_report : status ≤ 1 → Reports words call status
  -- A refusal of the input is the right one.
  pub refusal : 3 ≤ status → status ≤ 6 → (note : List ℕ) × Refuses words call status note
  pub read_fault : status ≡ 7 → BreaksReading words call
  pub write_fault : status ≡ 8 → BreaksOff words call
  -- At 9, as at 7, no more was read than an input may have.
  pub few : status ≡ 9 → (command : Command) → Asks words command → AtMost (was_read call) (limit_of command)
  -- Each status from 2 on has its note.
  pub note : 2 ≤ status → (text : List ℕ) × IsNote words call status text × told text

-- What a call of `run` leaves, and one of `run_on_streams`: of the words, of what passed, of the notes that were told, of a source and a sink
-- of the report that contracts see so, of the sink of the notes, each before and after the call, and of the status.
pub record Leaves {S K E : Type 0} (words : List (List ℕ)) (call : Passed) (told : List ℕ → Type 0)
    (seen : S → SourceView) (source source_after : S) (seen_out : K → SinkView) (out out_after : K) (notes notes_after : E) (status : ℕ) : Type 0 where
  -- What the status says of the words and of what passed, and which note it has.
  pub served : IsServed words call told status
  -- Nothing is read where the words fit no command, statuses other than 0, 1 and 8 leave the sink of the report as it was, and those below 2
  -- that of the notes.
  pub unread : status ≡ 2 → source_after ≡ source
  pub unwritten : 2 ≤ status → status ≢ 8 → out_after ≡ out
  pub silent : status ≤ 1 → notes_after ≡ notes
  -- A failing device has counted it.
  pub read_fault : status ≡ 7 → Rose (seen source).faults (seen source_after).faults
  pub write_fault : status ≡ 8 → Rose (seen_out out).faults (seen_out out_after).faults
  -- The table of rows takes no memory, and nothing is read for it: it is written, or the sink failed.
  pub rows : AsksForRows words → (source_after ≡ source) × ((status ≡ 0) ⊎ (status ≡ 8))
  -- A trial reads nothing, so the source does not end it. Where the sink has no new fault it ends as is due, or when out of memory.
  pub trial : (trial : Trial) → AsksForTrial words trial
      → (source_after ≡ source) × (status ≢ 7) × (¬ Rose (seen_out out).faults (seen_out out_after).faults → (status ≡ 9) ⊎ IsTrialDue trial status)
  -- Words that fit and no new fault give the status that the whole input is due, or out of memory. Where the source tells its bytes, that
  -- input is all that was left.
  pub completeness : (command : Command) → Asks words command
      → ¬ Rose (seen source).faults (seen source_after).faults → ¬ Rose (seen_out out).faults (seen_out out_after).faults
      → (status ≡ 9) ⊎ IfSome (seen source).left (λ input. IsDue command input status)
