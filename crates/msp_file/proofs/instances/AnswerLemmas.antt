-- From the reading of the lines to the answer.
use Rattle.std.proofs.Common.{◌≡◌, ℕ, List, Result, Ok, Err, inl, inr, ap, ◌∙◌}
use Rattle.std.specs.Result.{IsErrAnd}
use Rattle.std.proofs.lemmas.Result.{err_from_is_err_and}
use Rattle.msp_grammar.specs.declared.lines.fault.FileFault.{FileFault}
use Rattle.msp_grammar.specs.declared.lines.fault.FileFault.TheVariants.{Class, Cycle, Memory, After}
use Rattle.msp_grammar.specs.declared.filed.Filed.{Filed}
use Rattle.msp_file.specs.instance.Reading.{filed_at, front_at, Reads}
use Rattle.msp_grammar.specs.lines.Answers.{Fails}
use Rattle.msp_file.specs.instance.Steps.{IsFaultOfFiled}
use Rattle.msp_file.specs.instance.Answers.{IsFaultBy, IsFaultOf, IsFrontFaultOf}
use Rattle.msp_file.proofs.instances.LineCounts.{whole, front}

-- a fault of the lines is the first fault of the text
pub fault_of_lines : (b : List ℕ) (e : FileFault) → Fails e (filed_at b) → IsFaultOf b e
fault_of_lines b (Class fault name) f = elim (whole b (Class fault name) f) [ inl h ↦ absurd h | inr h ↦ let is : Class fault name ≡ After h.0 = h.1 in absurd cc ]
fault_of_lines b (Cycle job name) f = elim (whole b (Cycle job name) f) [ inl h ↦ absurd h | inr h ↦ let is : Cycle job name ≡ After h.0 = h.1 in absurd cc ]
fault_of_lines b Memory f = tt
fault_of_lines b e f = f

pub fault_of_front : (b : List ℕ) (e : FileFault) → Fails e (front_at b) → IsFrontFaultOf b e
fault_of_front b (Class fault name) f = absurd (front b (Class fault name) f)
fault_of_front b (Cycle job name) f = absurd (front b (Cycle job name) f)
fault_of_front b Memory f = tt
fault_of_front b e f = f

-- a fault of an instance that was read
pub fault_of_read : (Reading : Result Filed FileFault → Type 0) (filed : Filed) (e : FileFault) → Reading (Ok filed) → IsFaultOfFiled filed e → IsFaultBy Reading e
fault_of_read Reading filed (Class fault name) h f = record { filed = filed; reads = h; first = f.0; named = f.1 }
fault_of_read Reading filed (Cycle job name) h f = record { filed = filed; reads = h; conditions = f.0; least = f.1; named = f.2 }
fault_of_read Reading filed Memory h f = tt
fault_of_read Reading filed e h f = absurd f

pub fault_of_whole : (b : List ℕ) (filed : Filed) (e : FileFault) → Reads b (Ok filed) → IsFaultOfFiled filed e → IsFaultOf b e
fault_of_whole b filed e h f = fault_of_read (Reads b) filed e h f

-- how a function that reads ends at a `?`
pub failed : {A E : Type 0} {e : E} (r : Result A E) → IsErrAnd r (λ d. d ≡ e) → r ≡ Err e
failed {e = e} r h = let p = err_from_is_err_and {Q = λ d. d ≡ e} r h in p.1 ∙ ap Err p.2
