-- What is known of a call that was served, from the way in which it ended.
use Rattle.std.proofs.Common.{◌≡◌, ◌≢◌, ◌↔◌, ℕ, ◌≤◌, ◌⊎◌, inl, inr, List, length, Option, Some, None, IfSome, Result, Ok, Err, refl, sym, subst, codes, arith}
use Rattle.std.specs.Io.KnownBytes.{Consumes, IsAtEnd}
use Rattle.msp_io.specs.Views.{SourceView}
use Rattle.msp_io.specs.Sources.{Gives, GivesAll}
use Rattle.msp_io.proofs.Moved.{Consumes-all, Consumes-within}
use Rattle.msp_top.specs.declared.refusal.Refusal.{Refusal}
use Rattle.msp_top.specs.declared.command.Command.{Command}
use Rattle.msp_top.specs.declared.command.Trial.{Trial}
use Rattle.msp_top.specs.Commands.{Asks, AsksForRows, AsksForTrial, Misfits}
use Rattle.msp_top.specs.Outcome.{report, refusal}
use Rattle.msp_top.specs.Trials.{TrialIsRight}
use Rattle.msp_top.specs.Run.{Passed, limit_of, too_long_text, IsRight, too_long, short, IsRightReport, of_input, of_trial, of_rows, Reports, BreaksOff, Refuses}
use Rattle.msp_top.specs.Run.{input_refused, past_the_limit, trial_refused, AtMost, was_read, BreaksReading, IsDue, IsTrialDue, IsServed, IsNote, misfit as note_misfit}
use Rattle.msp_top.specs.Run.{refused as note_refused, read_fault, write_fault, memory as note_memory}
use Rattle.msp_top.specs.Note.{note_text}
use Rattle.msp_top.specs.Ending.{TakesMemory, to_answer, to_try, Serves, status_of, misfit, cannot_read, no_memory, refuses, cannot_write, writes}
use Rattle.msp_top.proofs.OneCommand.{asks_once, rows_are_no_command, trial_is_no_command, trial_is_no_rows, trial_once}

-- ---- words that misfit ask for nothing
no_report : {X : Type 0} (words : List (List ℕ)) (call : Passed) (status : ℕ) (text : List ℕ) → Misfits words → IsRightReport words call status text → X
no_report words call status text none (of_input command input n l asked given right) = absurd (none.no_command command asked)
no_report words call status text none (of_trial trial n l asked right) = absurd (none.no_trial trial asked)
no_report words call status text none (of_rows asked) = absurd (none.no_rows asked)

no_refusal : {X : Type 0} (words : List (List ℕ)) (call : Passed) (status : ℕ) (note : List ℕ) → Misfits words → Refuses words call status note → X
no_refusal words call status note none (input_refused command input n l asked given within right) = absurd (none.no_command command asked)
no_refusal words call status note none (past_the_limit command bytes asked given count) = absurd (none.no_command command asked)
no_refusal words call status note none (trial_refused trial n l asked right) = absurd (none.no_trial trial asked)

no_want : {X : Type 0} (words : List (List ℕ)) (call : Passed) → Misfits words → TakesMemory words call → X
no_want words call none (to_answer command asked few) = absurd (none.no_command command asked)
no_want words call none (to_try trial asked) = absurd (none.no_trial trial asked)

-- ---- what an ending says

pub serves_known : (words : List (List ℕ)) (call : Passed) (read wrote : Type 0) (r : Result ℕ Refusal) → Serves words call read wrote r → status_of r ≤ 9
serves_known words call read wrote r (misfit n h text) = omega arith
serves_known words call read wrote r (cannot_read command asked few rose) = omega arith
serves_known words call read wrote r (no_memory why takes memory) = omega (arith, memory.0)
serves_known words call read wrote r (refuses status note from to h) = omega (arith, to)
serves_known words call read wrote r (cannot_write h failed) = omega arith
serves_known words call read wrote r (writes status small h) = omega (arith, small)

pub serves_usage : (words : List (List ℕ)) (call : Passed) (read wrote : Type 0) (r : Result ℕ Refusal) → Serves words call read wrote r → (status_of r ≡ 2) ↔ Misfits words
serves_usage words call read wrote r (misfit n h text) = (λ is. h, λ h. refl)
serves_usage words call read wrote r (cannot_read command asked few rose) = (λ is. absurd (omega (arith, is)), λ none. absurd (none.no_command command asked))
serves_usage words call read wrote r (no_memory why takes memory) = (λ is. absurd (omega (arith, is, memory.0)), λ none. no_want words call none takes)
serves_usage words call read wrote r (refuses status note from to h) = (λ is. absurd (omega (arith, is, from)), λ none. no_refusal words call status (note_text note) none h)
serves_usage words call read wrote r (cannot_write h failed) = (λ is. absurd (omega (arith, is)), λ none. no_report words call h.status h.text none h.right)
serves_usage words call read wrote r (writes status small (text, right, grown)) = (λ is. absurd (omega (arith, is, small)), λ none. no_report words call status text none right)

pub serves_report : (words : List (List ℕ)) (call : Passed) (read wrote : Type 0) (r : Result ℕ Refusal) → Serves words call read wrote r → status_of r ≤ 1 → Reports words call (status_of r)
serves_report words call read wrote r (writes status small h) low = h
serves_report words call read wrote r (no_memory why takes memory) low = absurd (omega (arith, low, memory.0))
serves_report words call read wrote r (refuses status note from to h) low = absurd (omega (arith, low, from))
serves_report words call read wrote r _ low = absurd (omega (arith, low))

-- a refusal has a status from 2 on
pub refusal_is_high : {X : Type 0} (words : List (List ℕ)) (call : Passed) (read wrote : Type 0) (why : Refusal) → Serves words call read wrote (Err why) → why.status ≤ 1 → X
refusal_is_high words call read wrote why (no_memory w takes memory) low = absurd (omega (arith, low, memory.0))
refusal_is_high words call read wrote why (refuses status note from to h) low = absurd (omega (arith, low, from))
refusal_is_high words call read wrote why _ low = absurd (omega (arith, low))

pub report_is_low : (words : List (List ℕ)) (call : Passed) (read wrote : Type 0) (status : ℕ) → Serves words call read wrote (Ok status) → status ≤ 1
report_is_low words call read wrote status (writes n small h) = small

pub serves_refusal : (words : List (List ℕ)) (call : Passed) (read wrote : Type 0) (why : Refusal)
    → Serves words call read wrote (Err why) → 3 ≤ why.status → why.status ≤ 6 → (note : List ℕ) × Refuses words call why.status note
serves_refusal words call read wrote why (refuses status note from to h) low high = (note_text note, h)
serves_refusal words call read wrote why (no_memory w takes memory) low high = absurd (omega (arith, high, memory.0))
serves_refusal words call read wrote why _ low high = absurd (omega (arith, low, high))

pub serves_read_fault : (words : List (List ℕ)) (call : Passed) (read wrote : Type 0) (why : Refusal) → Serves words call read wrote (Err why) → why.status ≡ 7 → BreaksReading words call × read
serves_read_fault words call read wrote why (cannot_read command asked few rose) is = ((command, asked, few), rose)
serves_read_fault words call read wrote why (no_memory w takes memory) is = absurd (omega (arith, is, memory.0))
serves_read_fault words call read wrote why (refuses status note from to h) is = absurd (omega (arith, is, to))
serves_read_fault words call read wrote why _ is = absurd (omega (arith, is))

pub serves_write_fault : (words : List (List ℕ)) (call : Passed) (read wrote : Type 0) (why : Refusal) → Serves words call read wrote (Err why) → why.status ≡ 8 → BreaksOff words call × wrote
serves_write_fault words call read wrote why (cannot_write h failed) is = (h, failed)
serves_write_fault words call read wrote why (no_memory w takes memory) is = absurd (omega (arith, is, memory.0))
serves_write_fault words call read wrote why (refuses status note from to h) is = absurd (omega (arith, is, to))
serves_write_fault words call read wrote why _ is = absurd (omega (arith, is))

-- where the source tells what is left, what it gave to its end is all of that, and what it gave is no longer
pub record AreTold (call : Passed) (left : Option (List ℕ)) : Type 0 where
  pub whole : (input : List ℕ) → call.finished input → IfSome left (λ all. input ≡ all)
  pub front : (bytes : List ℕ) → call.gave bytes → IfSome left (λ all. length bytes ≤ length all)

pub are_told : (before after : SourceView) (call : Passed) → ((bytes : List ℕ) → call.gave bytes → Gives before after bytes)
    → ((bytes : List ℕ) → call.finished bytes → GivesAll before after bytes) → AreTold call before.left
are_told before after call gives finishes = record {
  whole = λ input h. let all = finishes input h in whole before.left input all.gives.left all.end;
  front = λ bytes h. front before.left bytes (gives bytes h).left;
}
  where
    whole : (left : Option (List ℕ)) (input : List ℕ) → Consumes left after.left input → IsAtEnd after.left → IfSome left (λ all. input ≡ all)
    whole None input taken end = tt
    whole (Some left) input taken end = Consumes-all left input after.left taken end

    front : (left : Option (List ℕ)) (bytes : List ℕ) → Consumes left after.left bytes → IfSome left (λ all. length bytes ≤ length all)
    front None bytes taken = tt
    front (Some left) bytes taken = Consumes-within left bytes after.left taken

IfSome-map : (left : Option (List ℕ)) (P Q : List ℕ → Type 0) → ((input : List ℕ) → P input → Q input) → IfSome left P → IfSome left Q
IfSome-map None P Q f h = tt
IfSome-map (Some input) P Q f h = f input h

-- a report of the bytes that were given is one of all that was left
report_told : (words : List (List ℕ)) (call : Passed) (left : Option (List ℕ)) (status : ℕ) (text : List ℕ) (command : Command)
    → AreTold call left → Asks words command → IsRightReport words call status text → IfSome left (λ input. IsRight command input (report status text))
report_told words call left status text command told asked (of_input other input n l asks given right) =
    IfSome-map left (λ all. input ≡ all)
    _ (λ all e. subst (λ i. IsRight command i (report status text)) e (subst (λ c. IsRight c input (report status text)) (asks_once words other command asks asked) right)) (told.whole input given)
report_told words call left status text command told asked (of_trial trial n l asks right) = trial_is_no_command words trial command asks asked
report_told words call left status text command told asked (of_rows asks) = rows_are_no_command words command asks asked

-- a refusal of the bytes that were given is one of all that was left
refusal_told : (words : List (List ℕ)) (call : Passed) (left : Option (List ℕ)) (status : ℕ) (note : List ℕ) (command : Command)
    → AreTold call left → Asks words command → Refuses words call status note → IfSome left (λ input. IsRight command input (refusal status note))
refusal_told words call left status note command told asked (input_refused other input n l asks given within right) =
    IfSome-map left (λ all. input ≡ all)
    _ (λ all e. subst (λ i. IsRight command i (refusal status note)) e (subst (λ c. IsRight c input (refusal status note)) (asks_once words other command asks asked) (short _ within right)))
    (told.whole input given)
refusal_told words call left status note command told asked (past_the_limit other bytes asks given count) =
    IfSome-map left (λ all. length bytes ≤ length all)
    _ (λ all long. subst (λ c. IsRight c all (refusal 4 (too_long_text (limit_of other)))) (asks_once words other command asks asked) (too_long (omega (arith, long, count))))
    (told.front bytes given)
refusal_told words call left status note command told asked (trial_refused trial n l asks right) = trial_is_no_command words trial command asks asked

pub serves_due : (words : List (List ℕ)) (call : Passed) (read wrote : Type 0) (left : Option (List ℕ)) (r : Result ℕ Refusal)
    → AreTold call left → Serves words call read wrote r → (command : Command) → Asks words command → ¬ read → ¬ wrote →
    (status_of r ≡ 9) ⊎ IfSome left (λ input. IsDue command input (status_of r))
serves_due words call read wrote left r told (misfit n h text) command asked source out = absurd (h.no_command command asked)
serves_due words call read wrote left r told (cannot_read other asks few rose) command asked source out = absurd (source rose)
serves_due words call read wrote left r told (no_memory why takes wanting) command asked source out = inl wanting.0
serves_due words call read wrote left r told (refuses status note from to h) command asked source out =
    inr (IfSome-map left (λ input. IsRight command input (refusal status (note_text note)))
    _ (λ input right. inr (note_text note, right)) (refusal_told words call left status (note_text note) command told asked h))
serves_due words call read wrote left r told (cannot_write h failed) command asked source out = absurd (out failed)
serves_due words call read wrote left r told (writes status small (text, right, grown)) command asked source out =
    inr (IfSome-map left (λ input. IsRight command input (report status text)) _ (λ input r. inl (text, r)) (report_told words call left status text command told asked right))

-- at 9 no more is read than an input may have
pub serves_few : (words : List (List ℕ)) (call : Passed) (read wrote : Type 0) (r : Result ℕ Refusal)
    → Serves words call read wrote r → status_of r ≡ 9 → (command : Command) → Asks words command → AtMost (was_read call) (limit_of command)
serves_few words call read wrote r (misfit n h text) is command asked = absurd (h.no_command command asked)
serves_few words call read wrote r (no_memory why (to_answer other asks few) wanting) is command asked = subst (λ c. AtMost (was_read call) (limit_of c)) (asks_once words other command asks asked) few
serves_few words call read wrote r (no_memory why (to_try trial asks) wanting) is command asked = trial_is_no_command words trial command asks asked
serves_few words call read wrote r (refuses status note from to h) is command asked = absurd (omega (arith, is, to))
serves_few words call read wrote r (writes status small h) is command asked = absurd (omega (arith, is, small))
serves_few words call read wrote r _ is command asked = absurd (omega (arith, is))

-- the table of rows is written, or the sink failed
rows_status : (words : List (List ℕ)) (call : Passed) (status : ℕ) (text : List ℕ) → AsksForRows words → IsRightReport words call status text → status ≡ 0
rows_status words call status text asked (of_input command input n l asks given right) = rows_are_no_command words command asked asks
rows_status words call status text asked (of_trial trial n l asks right) = trial_is_no_rows words trial asks asked
rows_status words call status text asked (of_rows asks) = refl

rows_refuse_none : {X : Type 0} (words : List (List ℕ)) (call : Passed) (status : ℕ) (note : List ℕ) → AsksForRows words → Refuses words call status note → X
rows_refuse_none words call status note rows (input_refused command input n l asked given within right) = rows_are_no_command words command rows asked
rows_refuse_none words call status note rows (past_the_limit command bytes asked given count) = rows_are_no_command words command rows asked
rows_refuse_none words call status note rows (trial_refused trial n l asked right) = trial_is_no_rows words trial asked rows

rows_take_none : {X : Type 0} (words : List (List ℕ)) (call : Passed) → AsksForRows words → TakesMemory words call → X
rows_take_none words call rows (to_answer command asked few) = rows_are_no_command words command rows asked
rows_take_none words call rows (to_try trial asked) = trial_is_no_rows words trial asked rows

pub serves_rows_status : (words : List (List ℕ)) (call : Passed) (read wrote : Type 0) (r : Result ℕ Refusal)
    → Serves words call read wrote r → AsksForRows words → (status_of r ≡ 0) ⊎ (status_of r ≡ 8)
serves_rows_status words call read wrote r (misfit n h text) rows = absurd (h.no_rows rows)
serves_rows_status words call read wrote r (cannot_read command asked few rose) rows = rows_are_no_command words command rows asked
serves_rows_status words call read wrote r (no_memory why takes wanting) rows = rows_take_none words call rows takes
serves_rows_status words call read wrote r (refuses status note from to h) rows = rows_refuse_none words call status (note_text note) rows h
serves_rows_status words call read wrote r (cannot_write h failed) rows = inr refl
serves_rows_status words call read wrote r (writes status small (text, right, grown)) rows = inl (rows_status words call status text rows right)

-- a trial is not ended by the source
pub serves_trial_status : (words : List (List ℕ)) (call : Passed) (read wrote : Type 0) (r : Result ℕ Refusal)
    → Serves words call read wrote r → (trial : Trial) → AsksForTrial words trial → status_of r ≢ 7
serves_trial_status words call read wrote r (cannot_read command asks few rose) trial asked is = trial_is_no_command words trial command asked asks
serves_trial_status words call read wrote r (no_memory why takes wanting) trial asked is = absurd (omega (arith, is, wanting.0))
serves_trial_status words call read wrote r (refuses status note from to h) trial asked is = absurd (omega (arith, is, to))
serves_trial_status words call read wrote r (writes status small h) trial asked is = absurd (omega (arith, is, small))
serves_trial_status words call read wrote r _ trial asked is = absurd (omega (arith, is))

trial_written_due : (words : List (List ℕ)) (call : Passed) (status : ℕ) (text : List ℕ) (trial : Trial) → AsksForTrial words trial → IsRightReport words call status text → IsTrialDue trial status
trial_written_due words call status text trial asked (of_input command input n l asks given right) = trial_is_no_command words trial command asked asks
trial_written_due words call status text trial asked (of_trial other n l asks right) = inl (text, subst (λ a. TrialIsRight a (report status text)) (trial_once words other trial asks asked) right)
trial_written_due words call status text trial asked (of_rows asks) = trial_is_no_rows words trial asked asks

trial_refused_due : (words : List (List ℕ)) (call : Passed) (status : ℕ) (note : List ℕ) (trial : Trial) → AsksForTrial words trial → Refuses words call status note → IsTrialDue trial status
trial_refused_due words call status note trial asked (input_refused command input n l asks given within right) = trial_is_no_command words trial command asked asks
trial_refused_due words call status note trial asked (past_the_limit command bytes asks given count) = trial_is_no_command words trial command asked asks
trial_refused_due words call status note trial asked (trial_refused other n l asks right) =
    inr (note, subst (λ a. TrialIsRight a (refusal status note)) (trial_once words other trial asks asked) right)

pub serves_trial_due : (words : List (List ℕ)) (call : Passed) (read wrote : Type 0) (r : Result ℕ Refusal)
    → Serves words call read wrote r → (trial : Trial) → AsksForTrial words trial → ¬ wrote → (status_of r ≡ 9) ⊎ IsTrialDue trial (status_of r)
serves_trial_due words call read wrote r (misfit n h text) trial asked out = absurd (h.no_trial trial asked)
serves_trial_due words call read wrote r (cannot_read command asks few rose) trial asked out = trial_is_no_command words trial command asked asks
serves_trial_due words call read wrote r (no_memory why takes wanting) trial asked out = inl wanting.0
serves_trial_due words call read wrote r (refuses status note from to h) trial asked out = inr (trial_refused_due words call status (note_text note) trial asked h)
serves_trial_due words call read wrote r (cannot_write h failed) trial asked out = absurd (out failed)
serves_trial_due words call read wrote r (writes status small (text, right, grown)) trial asked out = inr (trial_written_due words call status text trial asked right)

pub serves_note : (words : List (List ℕ)) (call : Passed) (read wrote : Type 0) (why : Refusal) → Serves words call read wrote (Err why) → IsNote words call why.status (note_text why.note)
serves_note words call read wrote why (misfit n h text) = subst (IsNote words call 2) (sym text) note_misfit
serves_note words call read wrote why (cannot_read command asked few rose) = read_fault
serves_note words call read wrote why (no_memory w takes wanting) = by_memory why.status (note_text why.note) wanting.0 wanting.1
  where
    by_memory : (status : ℕ) (text : List ℕ) → status ≡ 9 → text ≡ codes "out of memory" → IsNote words call status text
    by_memory status text e f = let P : ℕ → Type 0 = λ n. IsNote words call n text in subst P (sym e) (subst (IsNote words call 9) (sym f) note_memory)
serves_note words call read wrote why (refuses status note from to h) = note_refused status (note_text note) from to h
serves_note words call read wrote why (cannot_write h failed) = write_fault

-- ---- all that the status says
pub is_served : (words : List (List ℕ)) (call : Passed) (read wrote : Type 0) (told : List ℕ → Type 0) (status : ℕ) → Serves words call read wrote (Ok status) → IsServed words call told status
is_served words call read wrote told status h =
    let low = report_is_low words call read wrote status h in
    record {
      known = serves_known words call read wrote (Ok status) h;
      usage = serves_usage words call read wrote (Ok status) h;
      right_report = serves_report words call read wrote (Ok status) h;
      refusal = λ from to. absurd (omega (arith, from, low));
      read_fault = λ is. absurd (omega (arith, is, low));
      write_fault = λ is. absurd (omega (arith, is, low));
      few = serves_few words call read wrote (Ok status) h;
      note = λ high. absurd (omega (arith, high, low));
    }

pub is_refused : (words : List (List ℕ)) (call : Passed) (read wrote : Type 0) (told : List ℕ → Type 0) (why : Refusal)
    → Serves words call read wrote (Err why) → told (note_text why.note) → IsServed words call told why.status
is_refused words call read wrote told why h line = record {
  known = serves_known words call read wrote (Err why) h;
  usage = serves_usage words call read wrote (Err why) h;
  right_report = refusal_is_high words call read wrote why h;
  refusal = serves_refusal words call read wrote why h;
  read_fault = λ is. (serves_read_fault words call read wrote why h is).0;
  write_fault = λ is. (serves_write_fault words call read wrote why h is).0;
  few = serves_few words call read wrote (Err why) h;
  note = λ high. (note_text why.note, serves_note words call read wrote why h, line);
}
