-- Answers that fail, and the answer to `solve`.
use Rattle.std.proofs.Common.{◌≢◌, inl, inr, ℕ, List, Option, Result, Ok, Err, refl}
use Rattle.msp_class.specs.declared.class.Class.{Class}
use Rattle.msp_grammar.specs.declared.lines.fault.FileFault.{FileFault}
use Rattle.msp_grammar.specs.declared.lines.fault.FileFault.TheVariants.{Memory}
use Rattle.msp_grammar.specs.declared.filed.Filed.{Filed}
use Rattle.msp_grammar.specs.lines.Faults.{file_text}
use Rattle.msp_dispatch.specs.declared.Cannot.{Cannot}
use Rattle.msp_dispatch.specs.declared.Cannot.TheVariants.{Memory as NoMemory}
use Rattle.msp_dispatch.specs.Dispatch.{IsFault}
use Rattle.msp_grammar.specs.InstanceText.{IsInstanceText}
use Rattle.msp_top.specs.declared.answers.Report.{Report}
use Rattle.msp_top.specs.declared.refusal.Refusal.{Refusal}
use Rattle.msp_top.specs.Outcome.{Outcome, refusal}
use Rattle.msp_top.specs.Solves.{SolveIsRight, unsolved}
use Rattle.msp_top.specs.Files.{file_status}
use Rattle.msp_top.specs.Refusals.{of_file_fault, of_cannot}
use Rattle.msp_top.specs.Answers.{Answers, OfFiled}

-- a right outcome of one kind is one of another
pub answers-along : (P Q : Outcome → Type 0) (r : Result Report Refusal) → ((outcome : Outcome) → P outcome → Q outcome) → Answers P r → Answers Q r
answers-along P Q (Ok made) f h = f _ h
answers-along P Q (Err why) f (inl memory) = inl memory
answers-along P Q (Err why) f (inr right) = inr (f _ right)

-- a fault of a text is an answer where it is right to say so, unless it is out of memory
pub fault_first : (P : Outcome → Type 0) (fault : FileFault) → (fault ≢ Memory → P (refusal (file_status fault) (file_text fault))) → Answers P (Err (of_file_fault fault))
fault_first P Memory right = inl (refl, refl)
fault_first P fault right = inr (right (λ e. cc))

-- what is said of an instance is said of the text that was read as it
pub filed_right : (IsRightOf : List ℕ → Outcome → Type 0) (input : List ℕ) (filed : Filed) (r : Result Report Refusal)
    → IsInstanceText input filed.instance filed.names → Answers (OfFiled IsRightOf filed) r → Answers (IsRightOf input) r
filed_right IsRightOf input filed r read h = answers-along (OfFiled IsRightOf filed) (IsRightOf input) r (λ outcome f. f input read) h

pub cannot_first : (at : Option Class) (filed : Filed) (cannot : Cannot) → IsFault filed.instance at cannot → Answers (OfFiled (λ input. SolveIsRight input at) filed) (Err (of_cannot cannot))
cannot_first at filed NoMemory h = inl (refl, refl)
cannot_first at filed cannot h = inr (λ input read. unsolved filed.names filed.instance cannot read (λ e. cc) h)
