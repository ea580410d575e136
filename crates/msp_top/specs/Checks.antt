-- What is right to say of the text of an instance with that of a schedule after it.
use Rattle.std.specs.Prelude.{◌≡◌, ◌≢◌, ℕ, ◌+◌, ◌==◌, List, ◌++◌, count_by, Option, codes}
use Rattle.msp_class.specs.declared.class.Class.{Class}
use Rattle.msp_class.specs.Env.{IsCutOnUnrelated}
use Rattle.msp_name.specs.Names.{name_of}
use Rattle.msp_text.specs.Bytes.{line_feed_byte}
use Rattle.msp_instance.specs.declared.Instance.{Instance}
use Rattle.msp_schedule.specs.declared.breaks.Break.{Break}
use Rattle.msp_pieces.specs.Feasible.{Feasible}
use Rattle.msp_schedule.specs.Breaks.{IsDecision}
use Rattle.msp_grammar.specs.declared.filed.Filed.{Filed}
use Rattle.msp_grammar.specs.InstanceText.{IsInstanceText}
use Rattle.msp_grammar.specs.ScheduleText.{IsScheduleText}
use Rattle.msp_grammar.specs.declared.lines.fault.FileFault.{FileFault}
use Rattle.msp_grammar.specs.declared.lines.fault.FileFault.TheVariants.{Memory}
use Rattle.msp_grammar.specs.declared.filed.Stated.{Stated}
use Rattle.msp_file.specs.instance.Answers.{IsFrontFaultOf}
use Rattle.msp_file.specs.schedule.Answers.{IsScheduleFaultOf}
use Rattle.msp_grammar.specs.lines.Faults.{file_text}
use Rattle.msp_report.specs.CheckText.{StatesItsCost, IsCheckText}
use Rattle.msp_top.specs.Files.{file_status}
use Rattle.msp_top.specs.Outcome.{Outcome, report, refusal}

abbrev pub unchecked_text : Class → List ℕ
unchecked_text class = codes "no check for " ++ name_of class

-- The input begins with a text of the instance, and the rest follows, whose first line has this number.
pub record BeginsWith (input : List ℕ) (filed : Filed) (line : ℕ) (rest : List ℕ) : Type 0 where
  pub front : List ℕ
  pub whole : input ≡ front ++ rest
  pub is : IsInstanceText front filed.instance filed.names
  pub counted : line ≡ count_by (λ byte. byte == line_feed_byte) front + 1

-- The status is 0 exactly where the schedule is feasible and its cost is the stated one.
pub data HasCheckStatus (i : Instance) (s : Stated) : ℕ → Type 0 where
  holds : Feasible i s.schedule → StatesItsCost i s → HasCheckStatus i s 0
  fails : ¬ (Feasible i s.schedule × StatesItsCost i s) → HasCheckStatus i s 1

-- The report says which condition of a feasible schedule is broken first, or, where none is, the cost.
pub record IsCheckReport (filed : Filed) (s : Stated) (text : List ℕ) : Type 0 where
  pub broken : Option Break
  pub first : IsDecision filed.instance s.schedule broken
  pub printed : IsCheckText filed s broken text

-- The outcome is right: a report on the schedule; the first fault of the text of the instance at the front; that no schedules of its
-- class are checked; or the first fault of the rest as a text of a schedule.
pub data CheckIsRight (input : List ℕ) : Outcome → Type 0 where
  checked : (filed : Filed) (s : Stated) (line : ℕ) (rest : List ℕ) (status : ℕ) (text : List ℕ) → BeginsWith input filed line rest → ¬ IsCutOnUnrelated filed.instance.class
      → IsScheduleText rest filed.names s.schedule s.cost → HasCheckStatus filed.instance s status → IsCheckReport filed s text → CheckIsRight input (report status text)
  misread_front : (fault : FileFault) → fault ≢ Memory → IsFrontFaultOf input fault → CheckIsRight input (refusal (file_status fault) (file_text fault))
  unchecked : (filed : Filed) (line : ℕ) (rest : List ℕ)
      → BeginsWith input filed line rest → IsCutOnUnrelated filed.instance.class → CheckIsRight input (refusal 5 (unchecked_text filed.instance.class))
  misread_rest : (filed : Filed) (line : ℕ) (rest : List ℕ) (fault : FileFault) → BeginsWith input filed line rest → ¬ IsCutOnUnrelated filed.instance.class
      → fault ≢ Memory → IsScheduleFaultOf filed.names line rest fault → CheckIsRight input (refusal (file_status fault) (file_text fault))
