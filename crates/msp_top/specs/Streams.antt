-- What passed over std's reader and writers: the bytes where they tell them, and else how many.
use Rattle.std.specs.Prelude.{◌≡◌, ◌⊎◌, ℕ, ◌+◌, ◌<◌, ◌≤◌, List, length, Option}
use Rattle.msp_io.specs.declared.std_io.StdSource.{StdSource}
use Rattle.msp_io.specs.declared.std_io.StdSink.{StdSink}
use Rattle.msp_io.specs.Faults.{so_many_more}
use Rattle.msp_io.specs.StdAdapters.{SourceGave, SourceFinished, SourceBroke, SinkTook, SinkBroke}
use Rattle.msp_top.specs.declared.command.Command.{Command}
use Rattle.msp_top.specs.Commands.{Asks}
use Rattle.msp_top.specs.Run.{Passed, passed_between, IsRightReport, IsTold, limit_of}

-- what passed between two states of std's reader and of its writer
abbrev pub passed : {R W : Type 0} → (R → Option (List ℕ)) → (W → Option (List ℕ)) → StdSource R → StdSource R → StdSink W → StdSink W → Passed
passed remaining contents = passed_between (SourceGave remaining) (SourceFinished remaining) (SourceBroke remaining) (SinkTook contents) (SinkBroke contents)

-- what was told on std's writer of the notes between two of its states
abbrev pub told : {E : Type 0} → (E → Option (List ℕ)) → StdSink E → StdSink E → List ℕ → Type 0
told contents notes notes_after = IsTold (SinkTook contents notes notes_after) (SinkBroke contents notes notes_after)

-- By the counts of the bytes that the source gave and that the sink took.
pub record IsCounted (words : List (List ℕ)) (call : Passed) (given given_after taken taken_after status : ℕ) : Type 0 where
  -- a right report has as many bytes as were taken
  pub report : status ≤ 1 → (text : List ℕ) × IsRightReport words call status text × (taken_after ≡ so_many_more taken (length text))
  -- where the sink failed, fewer were
  pub part : status ≡ 8 → (report : ℕ) × (text : List ℕ) × (count : ℕ) × IsRightReport words call report text × (count < length text) × (taken_after ≡ so_many_more taken count)
  -- no more was read than an input may have, or one byte more, at status 4
  pub read : (command : Command) → Asks words command → (count : ℕ) × (given_after ≡ so_many_more given count) × ((count ≤ limit_of command) ⊎ ((status ≡ 4) × (count ≡ limit_of command + 1)))
