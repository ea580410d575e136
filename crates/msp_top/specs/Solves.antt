-- What is right to say of the text of an instance that is to be solved.
use Rattle.std.specs.Prelude.{◌≡◌, ◌≢◌, ℕ, List, Option}
use Rattle.msp_class.specs.declared.class.Class.{Class}
use Rattle.msp_instance.specs.declared.Instance.{Instance}
use Rattle.msp_route.specs.declared.answer.Answer.{Answer}
use Rattle.msp_grammar.specs.declared.lines.fault.FileFault.{FileFault}
use Rattle.msp_grammar.specs.declared.lines.fault.FileFault.TheVariants.{Memory}
use Rattle.msp_file.specs.instance.Answers.{IsFaultOf}
use Rattle.msp_grammar.specs.InstanceText.{IsInstanceText}
use Rattle.msp_report.specs.SolveText.{solve_report}
use Rattle.msp_dispatch.specs.declared.Cannot.{Cannot}
use Rattle.msp_dispatch.specs.declared.Cannot.TheVariants.{Memory as NoMemory}
use Rattle.msp_dispatch.specs.Dispatch.{IsAnswered, IsFault}
use Rattle.msp_grammar.specs.lines.Faults.{file_text}
use Rattle.msp_top.specs.Files.{file_status}
use Rattle.msp_top.specs.Cannots.{cannot_status, cannot_text}
use Rattle.msp_top.specs.Outcome.{Outcome, report, refusal}

-- The report is one of a best answer to the instance that the input is the text of, at the class that is named, if one is named.
pub record IsSolveReport (input : List ℕ) (at : Option Class) (text : List ℕ) : Type 0 where
  pub names : List (List ℕ)
  pub instance : Instance
  pub answer : Answer
  pub read : IsInstanceText input instance names
  pub answered : IsAnswered instance at answer
  pub printed : text ≡ solve_report names answer

-- The outcome is right: a report; the first fault of the text, which is a limit or bad input; or why the instance that the input is
-- the text of is not solved.
pub data SolveIsRight (input : List ℕ) (at : Option Class) : Outcome → Type 0 where
  solved : (text : List ℕ) → IsSolveReport input at text → SolveIsRight input at (report 0 text)
  misread : (fault : FileFault) → fault ≢ Memory → IsFaultOf input fault → SolveIsRight input at (refusal (file_status fault) (file_text fault))
  unsolved : (names : List (List ℕ)) (instance : Instance) (cannot : Cannot) → IsInstanceText input instance names
      → cannot ≢ NoMemory → IsFault instance at cannot → SolveIsRight input at (refusal (cannot_status cannot) (cannot_text cannot))
