-- What the code's answers mean. No public contract cites this file.
use Rattle.std.specs.Prelude.{◌≡◌, ◌⊎◌, ℕ, ◌≤◌, List, Result, Ok, Err, codes}
use Rattle.msp_top.specs.declared.answers.Report.{Report}
use Rattle.msp_top.specs.declared.refusal.Refusal.{Refusal}
use Rattle.msp_gen.specs.Faults.{IsCount}
use Rattle.msp_grammar.specs.declared.filed.Filed.{Filed}
use Rattle.msp_grammar.specs.InstanceText.{IsInstanceText}
use Rattle.msp_top.specs.declared.command.TheConstants.{GREATEST_SEED}
use Rattle.msp_top.specs.declared.command.Trial.{Trial}
use Rattle.msp_top.specs.Outcome.{Outcome, report, refusal}
use Rattle.msp_top.specs.Checks.{BeginsWith}
use Rattle.msp_top.specs.Note.{note_text}

abbrev pub IsNoMemory : Refusal → Type 0
IsNoMemory why = (why.status ≡ 9) × (note_text why.note ≡ codes "out of memory")

-- The answer is a right outcome, or memory was wanting.
abbrev pub Answers : (Outcome → Type 0) → Result Report Refusal → Type 0
Answers IsRight (Ok made) = IsRight (report made.status made.text.items)
Answers IsRight (Err why) = IsNoMemory why ⊎ IsRight (refusal why.status (note_text why.note))

-- The outcome is right for each input that is the text of the instance and of its names.
abbrev pub OfFiled : (List ℕ → Outcome → Type 0) → Filed → Outcome → Type 0
OfFiled IsRightOf filed outcome = (input : List ℕ) → IsInstanceText input filed.instance filed.names → IsRightOf input outcome

-- The outcome is right for each input that begins with the instance's text, which this rest follows.
abbrev pub OfRest : (List ℕ → Outcome → Type 0) → Filed → ℕ → List ℕ → Outcome → Type 0
OfRest IsRightOf filed line rest outcome = (input : List ℕ) → BeginsWith input filed line rest → IsRightOf input outcome

-- The numbers of the trial lie in their ranges.
pub record IsInRange (trial : Trial) : Type 0 where
  pub jobs : IsCount trial.jobs
  pub seed : trial.seed ≤ GREATEST_SEED
