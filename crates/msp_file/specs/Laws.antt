-- Each text is read in one way.
use Rattle.std.specs.Prelude.{◌≢◌, ℕ, List, All}
use Rattle.msp_name.specs.OneWay.{AreReadOneWay}
use Rattle.msp_text.specs.JobName.{IsJobName, AreDistinct}
use Rattle.msp_grammar.specs.declared.filed.Filed.{Filed}
use Rattle.msp_grammar.specs.InstanceText.{IsInstanceText}
use Rattle.msp_grammar.specs.ScheduleText.{IsScheduleText}
use Rattle.msp_grammar.specs.declared.lines.fault.FileFault.{FileFault}
use Rattle.msp_grammar.specs.declared.lines.fault.FileFault.TheVariants.{Memory}
use Rattle.msp_file.specs.declared.instance.read.Front.{Front}
use Rattle.msp_grammar.specs.declared.filed.Stated.{Stated}
use Rattle.msp_file.specs.instance.Answers.{IsFaultOf, IsFrontFaultOf, IsFrontText}
use Rattle.msp_file.specs.schedule.Answers.{IsScheduleFaultOf}

-- The bytes are a text of the instance and of the names of its jobs.
abbrev pub IsTextOf : List ℕ → Filed → Type 0
IsTextOf bytes f = IsInstanceText bytes f.instance f.names

-- The fault is the first one of the bytes. Out of memory is none.
abbrev pub IsFirstFaultOf : List ℕ → FileFault → Type 0
IsFirstFaultOf bytes e = IsFaultOf bytes e × (e ≢ Memory)

-- Bytes are an instance text exactly where they have no first fault, and each instance and each first fault is the only one.
abbrev pub LawOfInstanceTexts : Type 0
LawOfInstanceTexts = AreReadOneWay IsTextOf IsFirstFaultOf

-- The same of an instance text at the front of the bytes, whatever follows it.
abbrev pub IsFrontOf : List ℕ → Front → Type 0
IsFrontOf bytes f = IsFrontText bytes f.filed.instance f.filed.names f.used f.line

abbrev pub IsFirstFrontFaultOf : List ℕ → FileFault → Type 0
IsFirstFrontFaultOf bytes e = IsFrontFaultOf bytes e × (e ≢ Memory)

abbrev pub LawOfFrontTexts : Type 0
LawOfFrontTexts = AreReadOneWay IsFrontOf IsFirstFrontFaultOf

-- The same of a schedule text, whose first line has a number, for jobs of given names.
abbrev pub IsStatedTextOf : List (List ℕ) → List ℕ → Stated → Type 0
IsStatedTextOf names bytes s = IsScheduleText bytes names s.schedule s.cost

abbrev pub IsFirstScheduleFaultOf : List (List ℕ) → ℕ → List ℕ → FileFault → Type 0
IsFirstScheduleFaultOf names line bytes e = IsScheduleFaultOf names line bytes e × (e ≢ Memory)

abbrev pub LawOfScheduleTexts : Type 0
LawOfScheduleTexts =
    (names : List (List ℕ)) (line : ℕ) → All IsJobName names → AreDistinct names → AreReadOneWay (IsStatedTextOf names) (IsFirstScheduleFaultOf names line)
