-- What is right to say of a file of results.
use Rattle.std.specs.Prelude.{◌≡◌, ◌≢◌, ◌⊎◌, ℕ, List, [], ◌∷◌, Option, Err}
use Rattle.msp_class.specs.declared.class.Class.{Class}
use Rattle.msp_table.specs.declared.row.Chain.{Chain}
use Rattle.msp_table.specs.Rows.{keeps_size}
use Rattle.msp_table.specs.Chains.{every_row}
use Rattle.msp_closure.specs.declared.entry.Entry.{Entry}
use Rattle.msp_closure.specs.declared.entry.Mark.{Mark}
use Rattle.msp_closure.specs.Entries.{easy_listed, pseudo_listed, hard_listed, strong_listed, IsClash, IsStrongClash, IsWay, AreLabels}
use Rattle.msp_closure.specs.declared.frontier_lists.FrontierLists.{FrontierLists}
use Rattle.msp_closure.specs.Frontier.{IsFrontier}
use Rattle.msp_results.specs.declared.fault.ResultFault.{ResultFault}
use Rattle.msp_results.specs.declared.fault.ResultFault.TheVariants.{Memory}
use Rattle.msp_results.specs.Results.{ResultsOf}
use Rattle.msp_results.specs.Reading.{results_of}
use Rattle.msp_results.specs.Faults.{results_text}
use Rattle.msp_report.specs.LabelsText.{labels_report}
use Rattle.msp_report.specs.FrontierText.{frontier_report}
use Rattle.msp_report.specs.WhyText.{IsWhyText}
use Rattle.msp_top.specs.Results.{results_status, AreAllClasses}
use Rattle.msp_top.specs.declared.command.Question.{Question}
use Rattle.msp_top.specs.declared.command.Question.TheVariants.{Label, Frontier, Why}
use Rattle.msp_top.specs.Outcome.{Outcome, report, refusal}

-- The chains that show how the entries contradict themselves; None exactly where they do not.
pub record AreClashes (entries : List Entry) (clash strong_clash : Option Chain) : Type 0 where
  pub clash_is : IsWay every_row (easy_listed entries) (hard_listed entries) clash
  pub strong_clash_is : IsWay keeps_size (pseudo_listed entries) (strong_listed entries) strong_clash

-- The status is 1 exactly where the entries contradict themselves.
pub data HasClashStatus (entries : List Entry) : ℕ → Type 0 where
  contradicts : IsClash entries ⊎ IsStrongClash entries → HasClashStatus entries 1
  agrees : ¬ IsClash entries → ¬ IsStrongClash entries → HasClashStatus entries 0

-- The classes that are labelled: those that are named, or all of them in order of rank where none is named.
abbrev pub AreShown : List Class → List Class → Type 0
AreShown [] shown = AreAllClasses shown
AreShown (class ∷ classes) shown = shown ≡ class ∷ classes

-- The text says the labels of the named classes under the entries.
pub record IsLabelReport (classes : List Class) (entries : List Entry) (text : List ℕ) : Type 0 where
  pub marks : List Mark
  pub shown : List Class
  pub clash : Option Chain
  pub strong_clash : Option Chain
  pub labels : AreLabels entries marks
  pub asked : AreShown classes shown
  pub clashes : AreClashes entries clash strong_clash
  pub printed : text ≡ labels_report marks shown clash strong_clash

-- The text names the easy and the hard classes at which what is known ends, and the open ones at which what is not known begins.
pub record IsFrontierReport (entries : List Entry) (text : List ℕ) : Type 0 where
  pub lists : FrontierLists
  pub clash : Option Chain
  pub strong_clash : Option Chain
  pub frontier : IsFrontier entries lists
  pub clashes : AreClashes entries clash strong_clash
  pub printed : text ≡ frontier_report lists clash strong_clash

-- The text shows what makes the label of the class: the chains to the nearest class listed as easy or, by rows that keep size, as
-- pseudopolynomial, and those from the first class listed as hard, or as strongly hard, that leads to it.
pub record IsWhyReport (class : Class) (entries : List Entry) (text : List ℕ) : Type 0 where
  pub easy : Option Chain
  pub pseudo : Option Chain
  pub hard : Option Chain
  pub strong : Option Chain
  pub easy_is : IsWay every_row (easy_listed entries) (class ∷ []) easy
  pub pseudo_is : IsWay keeps_size (pseudo_listed entries) (class ∷ []) pseudo
  pub hard_is : IsWay every_row (class ∷ []) (hard_listed entries) hard
  pub strong_is : IsWay keeps_size (class ∷ []) (strong_listed entries) strong
  pub printed : IsWhyText entries class easy pseudo hard strong text

-- The text answers the question from the entries.
abbrev pub IsReportOn : Question → List Entry → List ℕ → Type 0
IsReportOn (Label classes) entries text = IsLabelReport classes entries text
IsReportOn Frontier entries text = IsFrontierReport entries text
IsReportOn (Why class) entries text = IsWhyReport class entries text

-- The outcome is right for a question and a file of results: the report on the entries that the input lists, or the first fault of the
-- results, which is a limit where a source is too long or the entries are too many.
pub data ReadsResults (question : Question) (input : List ℕ) : Outcome → Type 0 where
  reported : (entries : List Entry) (status : ℕ) (text : List ℕ)
      → ResultsOf input entries → HasClashStatus entries status → IsReportOn question entries text → ReadsResults question input (report status text)
  misread : (fault : ResultFault) → fault ≢ Memory → results_of input ≡ Err fault → ReadsResults question input (refusal (results_status fault) (results_text fault))
