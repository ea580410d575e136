-- How serving the words of a command line ends, before a note is told. No public contract cites this file.
use Rattle.std.specs.Prelude.{◌≡◌, ℕ, ◌≤◌, List, Result, Ok, Err}
use Rattle.msp_top.specs.declared.refusal.Refusal.{Refusal}
use Rattle.msp_top.specs.declared.notes.Note.{Note}
use Rattle.msp_top.specs.declared.notes.Note.TheVariants.{CannotRead, CannotWrite}
use Rattle.msp_top.specs.declared.command.Command.{Command}
use Rattle.msp_top.specs.declared.command.Trial.{Trial}
use Rattle.msp_top.specs.Commands.{Asks, AsksForTrial, Misfits}
use Rattle.msp_top.specs.Usage.{usage_text}
use Rattle.msp_top.specs.Run.{Passed, limit_of, Reports, BreaksOff, Refuses, AtMost, was_read}
use Rattle.msp_top.specs.Note.{note_text}
use Rattle.msp_top.specs.Answers.{IsNoMemory}

abbrev pub refused : ℕ → Note → Refusal
refused status note = record { status = status; note = note }

abbrev pub status_of : Result ℕ Refusal → ℕ
status_of (Ok status) = status
status_of (Err why) = why.status

-- no bytes passed, as where nothing is read
abbrev pub nothing : List ℕ → Type 0
nothing bytes = ⊥

-- a call that reads nothing
abbrev pub unread : (List ℕ → Type 0) → (List ℕ → Type 0) → Passed
unread took broke_off = record { gave = nothing; finished = nothing; broke = nothing; took = took; broke_off = broke_off }

-- what the words ask for takes memory, and no more of the input was read than it may have
pub data TakesMemory (words : List (List ℕ)) (call : Passed) : Type 0 where
  to_answer : (command : Command) → Asks words command → AtMost (was_read call) (limit_of command) → TakesMemory words call
  to_try : (trial : Trial) → AsksForTrial words trial → TakesMemory words call

-- the ways in which serving ends, where a failed read and a failed write say these facts of the devices
pub data Serves (words : List (List ℕ)) (call : Passed) (read_fault write_fault : Type 0) : Result ℕ Refusal → Type 0 where
  misfit : (note : Note) → Misfits words → note_text note ≡ usage_text words → Serves words call read_fault write_fault (Err (refused 2 note))
  cannot_read : (command : Command) → Asks words command → AtMost call.broke (limit_of command) → read_fault → Serves words call read_fault write_fault (Err (refused 7 CannotRead))
  no_memory : (why : Refusal) → TakesMemory words call → IsNoMemory why → Serves words call read_fault write_fault (Err why)
  refuses : (status : ℕ) (note : Note) → 3 ≤ status → status ≤ 6 → Refuses words call status (note_text note) → Serves words call read_fault write_fault (Err (refused status note))
  cannot_write : BreaksOff words call → write_fault → Serves words call read_fault write_fault (Err (refused 8 CannotWrite))
  writes : (status : ℕ) → status ≤ 1 → Reports words call status → Serves words call read_fault write_fault (Ok status)
