-- The ways in which serving ends, from what reading, answering and writing ensure.
use Rattle.std.proofs.Common.{◌≡◌, ◌≢◌, ℕ, ◌≤◌, inl, inr, List, [], length, Result, Ok, Err, IfErr, refl, sym, ap, ◌∙◌, subst, arith}
use Rattle.msp_io.specs.Whole.{IsStop, Puts}
use Rattle.msp_io.specs.declared.whole.Taken.{Taken}
use Rattle.msp_io.specs.declared.whole.Taken.TheVariants as taken
use Rattle.msp_io.specs.declared.whole.WriteFault.{WriteFault}
use Rattle.msp_report.specs.RowsText.{rows_report}
use Rattle.msp_top.specs.declared.answers.Report.{Report}
use Rattle.msp_top.specs.declared.refusal.Refusal.{Refusal}
use Rattle.msp_top.specs.declared.notes.Note.TheVariants.{TooLong}
use Rattle.msp_top.specs.declared.command.Command.{Command}
use Rattle.msp_top.specs.declared.command.Command.TheVariants.{Answer}
use Rattle.msp_top.specs.declared.command.Request.{Request}
use Rattle.msp_top.specs.declared.command.Trial.{Trial}
use Rattle.msp_top.specs.declared.command.Question.TheVariants.{Label}
use Rattle.msp_top.specs.Commands.{Asks, AsksForRows, AsksForTrial}
use Rattle.msp_top.specs.Outcome.{Outcome, report}
use Rattle.msp_top.specs.Trials.{TrialIsRight}
use Rattle.msp_top.specs.Run.{Passed, limit_of, IsRightWithin, short, IsRightReport, of_input, of_trial, of_rows, Refuses}
use Rattle.msp_top.specs.Run.{input_refused, past_the_limit, trial_refused}
use Rattle.msp_top.specs.Note.{note_text}
use Rattle.msp_top.specs.Refusals.{of_taken, of_write_fault, out_of_memory}
use Rattle.msp_top.specs.Answers.{Answers, IsInRange}
use Rattle.msp_top.specs.Words.{AsksForLabels, ReadsWords}
use Rattle.msp_top.specs.Ending.{unread, TakesMemory, to_answer, to_try, Serves, misfit, cannot_read, no_memory, refuses, cannot_write, writes}
use Rattle.msp_top.proofs.OutcomeStatuses.{within_status, trial_status}

-- what was answered to the input as it was passed on
pub right_same : (command : Command) (passed input : List ℕ) (outcome : Outcome) → passed ≡ input → IsRightWithin command passed outcome → IsRightWithin command input outcome
right_same command passed input outcome e h = let P : List ℕ → Type 0 = λ l. IsRightWithin command l outcome in subst P e h

pub answered_same : (command : Command) (passed input : List ℕ) (why : Refusal)
    → passed ≡ input → Answers (IsRightWithin command passed) (Err why) → Answers (IsRightWithin command input) (Err why)
answered_same command passed input why e h = subst (λ (l : List ℕ). Answers (IsRightWithin command l) (Err why)) e h

pub refused_is_no_usage : (command : Command) (input : List ℕ) (why : Refusal) → Answers (IsRightWithin command input) (Err why) → why.status ≢ 2
refused_is_no_usage command input why (inl wanting) is = omega (arith, wanting.0, is)
refused_is_no_usage command input why (inr right) is = omega (arith, (within_status command input _ right).0, is)

-- there was no memory for the classes that are named
pub serves_unnamed : (words : List (List ℕ)) (call : Passed) (read wrote : Type 0) → call.gave [] → AsksForLabels words → Serves words call read wrote (Err out_of_memory)
serves_unnamed words call read wrote untouched (classes, asked) =
    no_memory out_of_memory (to_answer (Answer (Label classes)) asked ([], inl untouched, omega arith)) (refl, refl)

-- what the words ask for, as the code has taken it apart
pub reads_as : (words : List (List ℕ)) (first request : Request) → ReadsWords words (Ok first) → first ≡ request → ReadsWords words (Ok request)
reads_as words first request h e = let P : Request → Type 0 = λ r. ReadsWords words (Ok r) in subst P e h

pub trial_in_range : (words : List (List ℕ)) (trial : Trial) → AsksForTrial words trial → IsInRange trial
trial_in_range words trial h = record { jobs = (h.jobs.low, h.jobs.high); seed = h.seed.high }

-- what is no usage says nothing of usage
pub never_usage : (X : Type 0) (r : Result ℕ Refusal) → IfErr r (λ why. why.status ≢ 2) → IfErr r (λ why. why.status ≡ 2 → X)
never_usage X (Ok status) h = tt
never_usage X (Err why) h = λ is. absurd (h is)

-- the input was not taken whole
pub serves_taken : (words : List (List ℕ)) (call : Passed) (read wrote : Type 0) (command : Command) (limit : ℕ) (cause : Taken) (why : Refusal)
    → Asks words command → limit ≡ limit_of command → why ≡ of_taken limit cause → (cause ≡ taken.ReadFault → read) →
    (bytes : List ℕ) × IsStop call.gave call.broke cause limit bytes → Serves words call read wrote (Err why)
serves_taken words call read wrote command limit cause why asked same e failed stop =
    let Q : ℕ → Type 0 = λ n. (bytes : List ℕ) × IsStop call.gave call.broke cause n bytes in
    subst (λ (r : Refusal). Serves words call read wrote (Err r)) (sym (e ∙ ap (λ n. of_taken n cause) same)) (by_cause cause failed (subst Q same stop))
  where
    by_cause : (cause : Taken) → (cause ≡ taken.ReadFault → read)
        → (bytes : List ℕ) × IsStop call.gave call.broke cause (limit_of command) bytes → Serves words call read wrote (Err (of_taken (limit_of command) cause))
    by_cause taken.ReadFault failed (bytes, (broken, few)) = cannot_read command asked (bytes, broken, few) (failed refl)
    by_cause taken.Memory failed (bytes, (given, few)) = no_memory out_of_memory (to_answer command asked (bytes, inl given, few)) (refl, refl)
    by_cause taken.TooLong failed (bytes, (given, count)) = refuses 4 (TooLong (limit_of command)) (omega arith) (omega arith) (past_the_limit command bytes asked given count)

-- the input was taken whole and refused
pub serves_refused : (words : List (List ℕ)) (call : Passed) (read wrote : Type 0) (command : Command) (input : List ℕ) (why : Refusal)
    → Asks words command → call.finished input → length input ≤ limit_of command →
    Answers (IsRightWithin command input) (Err why) → Serves words call read wrote (Err why)
serves_refused words call read wrote command input why asked given within (inl memory) = no_memory why (to_answer command asked (input, inr given, within)) memory
serves_refused words call read wrote command input why asked given within (inr right) =
    let range = within_status command input _ right in
    refuses why.status why.note range.0 range.1 (input_refused command input why.status (note_text why.note) asked given within right)

-- the report of the whole input is right
pub right_report : (words : List (List ℕ)) (call : Passed) (command : Command) (input : List ℕ) (made : Report) → Asks words command → call.finished input → length input ≤ limit_of command →
    IsRightWithin command input (report made.status made.text.items) → IsRightReport words call made.status made.text.items
right_report words call command input made asked given within right = of_input command input made.status made.text.items asked given (short _ within right)

-- a report was written whole
pub serves_written : (words : List (List ℕ)) (call : Passed) (read wrote : Type 0) (command : Command) (input : List ℕ) (made : Report) (bytes : List ℕ)
    → Asks words command → call.finished input → length input ≤ limit_of command →
    IsRightWithin command input (report made.status made.text.items) → bytes ≡ made.text.items → call.took bytes → Serves words call read wrote (Ok made.status)
serves_written words call read wrote command input made bytes asked given within right e grown =
    writes made.status (within_status command input _ right) (made.text.items, right_report words call command input made asked given within right, subst call.took e grown)

pub breaks_off : (words : List (List ℕ)) (call : Passed) (read wrote : Type 0) (status : ℕ) (text bytes : List ℕ) (fault : WriteFault)
    → IsRightReport words call status text → bytes ≡ text → Puts call.took call.broke_off bytes (Err fault) → wrote → Serves words call read wrote (Err of_write_fault)
breaks_off words call read wrote status text bytes fault right e put failed =
    let all : Puts call.took call.broke_off text (Err fault) = subst (λ b. Puts call.took call.broke_off b (Err fault)) e put in
    cannot_write (record { status = status; text = text; count = all.stopped.0; right = right; short = all.stopped.1; part = all.stopped.2 }) failed

-- the table of rows was written whole, or the sink failed
pub serves_rows : (words : List (List ℕ)) (call : Passed) (read wrote : Type 0) (bytes : List ℕ) → AsksForRows words → bytes ≡ rows_report → call.took bytes → Serves words call read wrote (Ok 0)
serves_rows words call read wrote bytes asked e grown = writes 0 (omega arith) (rows_report, of_rows asked, subst call.took e grown)

-- a trial was not solved, or memory was wanting
pub serves_untried : (words : List (List ℕ)) (call : Passed) (read wrote : Type 0) (trial : Trial) (why : Refusal)
    → AsksForTrial words trial → Answers (TrialIsRight trial) (Err why) → Serves words call read wrote (Err why)
serves_untried words call read wrote trial why asked (inl memory) = no_memory why (to_try trial asked) memory
serves_untried words call read wrote trial why asked (inr right) =
    let range = trial_status trial _ right in refuses why.status why.note range.0 range.1 (trial_refused trial why.status (note_text why.note) asked right)

-- the report of a trial was written whole, or the sink failed
pub serves_trial : (words : List (List ℕ)) (call : Passed) (read wrote : Type 0) (trial : Trial) (made : Report) (bytes : List ℕ) → AsksForTrial words trial
    → TrialIsRight trial (report made.status made.text.items) → bytes ≡ made.text.items → call.took bytes → Serves words call read wrote (Ok made.status)
serves_trial words call read wrote trial made bytes asked right e grown =
    writes made.status (trial_status trial _ right) (made.text.items, of_trial trial made.status made.text.items asked right, subst call.took e grown)

-- ---- what serving without the source says is so whatever the source gave
report_of_any : (words : List (List ℕ)) (call : Passed) (status : ℕ) (text : List ℕ) → IsRightReport words (unread call.took call.broke_off) status text → IsRightReport words call status text
report_of_any words call status text (of_input command input n l asked given right) = absurd given
report_of_any words call status text (of_trial trial n l asked right) = of_trial trial n l asked right
report_of_any words call status text (of_rows asked) = of_rows asked

refusal_of_any : (words : List (List ℕ)) (call : Passed) (status : ℕ) (note : List ℕ) → Refuses words (unread call.took call.broke_off) status note → Refuses words call status note
refusal_of_any words call status note (input_refused command input n l asked given within right) = absurd given
refusal_of_any words call status note (past_the_limit command bytes asked given count) = absurd given
refusal_of_any words call status note (trial_refused trial n l asked right) = trial_refused trial n l asked right

takes_of_any : (words : List (List ℕ)) (call : Passed) → TakesMemory words (unread call.took call.broke_off) → TakesMemory words call
takes_of_any words call (to_answer command asked (bytes, inl given, few)) = absurd given
takes_of_any words call (to_answer command asked (bytes, inr given, few)) = absurd given
takes_of_any words call (to_try trial asked) = to_try trial asked

pub serves_any : (words : List (List ℕ)) (call : Passed) (read wrote : Type 0) (r : Result ℕ Refusal) → Serves words (unread call.took call.broke_off) ⊥ wrote r → Serves words call read wrote r
serves_any words call read wrote r (misfit n h text) = misfit n h text
serves_any words call read wrote r (cannot_read command asked few failed) = absurd failed
serves_any words call read wrote r (no_memory why takes wanting) = no_memory why (takes_of_any words call takes) wanting
serves_any words call read wrote r (refuses status note from to h) = refuses status note from to (refusal_of_any words call status (note_text note) h)
serves_any words call read wrote r (cannot_write h failed) =
    cannot_write (record { status = h.status; text = h.text; count = h.count; right = report_of_any words call h.status h.text h.right; short = h.short; part = h.part }) failed
serves_any words call read wrote r (writes status small (text, right, grown)) = writes status small (text, report_of_any words call status text right, grown)
