-- What the reader of schedule texts answers.
use Rattle.std.specs.Prelude.{◌≡◌, ℕ, List, Result, Ok, Err, All}
use Rattle.msp_pieces.specs.declared.Frac.{Frac}
use Rattle.msp_pieces.specs.declared.Schedule.{Schedule}
use Rattle.msp_grammar.specs.ScheduleText.{schedule_text, IsStated}
use Rattle.msp_text.specs.JobName.{IsJobName, AreDistinct}
use Rattle.msp_grammar.specs.declared.lines.fault.FileFault.{FileFault}
use Rattle.msp_grammar.specs.declared.lines.fault.FileFault.TheVariants.{Head, Key, Again, ArcAgain, Class, Cycle, Memory}
use Rattle.msp_grammar.specs.declared.filed.Stated.{Stated}
use Rattle.msp_file.specs.schedule.Reading.{ReadsSchedule}

-- The fault is the first one of the text, whose first line has this number. Out of memory says nothing.
abbrev pub IsScheduleFaultOf : List (List ℕ) → ℕ → List ℕ → FileFault → Type 0
IsScheduleFaultOf names line bytes Memory = Unit {0}
IsScheduleFaultOf names line bytes e = ReadsSchedule names line bytes (Err e)

-- The fault is one that a schedule text can have: it has no head, no keys, no arcs and no names that have to be new, and no class.
abbrev pub IsScheduleFault : FileFault → Type 0
IsScheduleFault (Head at) = ⊥
IsScheduleFault (Key at) = ⊥
IsScheduleFault (Again at) = ⊥
IsScheduleFault (ArcAgain at) = ⊥
IsScheduleFault (Class fault name) = ⊥
IsScheduleFault (Cycle job name) = ⊥
IsScheduleFault _ = Unit {0}

-- Each schedule text is read in one way.
abbrev pub SchedulesReadOneWay : Type 0
SchedulesReadOneWay =
    (names : List (List ℕ)) (line : ℕ) (bytes : List ℕ) (read other : Result Stated FileFault) → ReadsSchedule names line bytes read → ReadsSchedule names line bytes other → read ≡ other

-- The printed text of a schedule is read as that schedule and its cost.
abbrev pub PrintedReadAgain : Type 0
PrintedReadAgain =
    (names : List (List ℕ)) (line : ℕ) (s : Schedule) (x : Frac) → All IsJobName names
    → AreDistinct names → IsStated names s x → ReadsSchedule names line (schedule_text names s x) (Ok (record { schedule = s; cost = x }))
