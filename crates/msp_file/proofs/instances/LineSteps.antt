-- What a line is read as, by what stands in it.
use Rattle.std.proofs.Common.{◌≡◌, ℕ, Bool, true, false, List, ◌∷◌, Result, Ok, Err, refl, sym, ◌∙◌, subst, bytes_eq, codes}
use Rattle.msp_class.specs.declared.class.Class.{Class}
use Rattle.msp_grammar.specs.declared.lines.fault.FileFault.{FileFault}
use Rattle.msp_grammar.specs.declared.lines.fault.FileFault.TheVariants.{Memory}
use Rattle.msp_grammar.specs.Layout.{has_order}
use Rattle.msp_grammar.specs.lines.Answers.{Fails}
use Rattle.msp_grammar.specs.lines.Reading.{Place, LineRead, line_at, fields_of}
use Rattle.msp_grammar.specs.lines.Steps.{AfterLine}
use Rattle.msp_file.specs.declared.instance.draft.Draft.{Draft}
use Rattle.msp_file.specs.declared.instance.draft.Next.{Next}
use Rattle.msp_file.specs.instance.Reading.{arc_step, arc_or_end, job_step}
use Rattle.msp_file.specs.instance.Steps.{AfterJob, AfterNext, AfterWords, next_of}

after_same : (step next : Draft → Place → Result (LineRead Draft) FileFault) (result : Result Bool FileFault) (d e : Draft) (p q : Place)
    → step d p ≡ next d q → AfterLine next result d q e q → AfterLine step result d p e q
after_same step next (Ok true) d e p q h a = h ∙ a
after_same step next (Ok false) d e p q h a = h ∙ a
after_same step next (Err fault) d e p q h a = subst (λ (read : Result (LineRead Draft) FileFault). Fails fault read) (sym h) a

pub arc_step_read : (result : Result Bool FileFault) (d e : Draft) (p q : Place) (line word : List ℕ) (fields : List (List ℕ)) → line_at p ≡ Ok (line, q) → fields_of line ≡ word ∷ fields
    → AfterWords true p.at (word ∷ fields) result d e → AfterLine arc_step result d p e q
unfolding arc_step
arc_step_read result d e p q line word fields h k a = after_same arc_step (λ draft place. arc_or_end true p.at draft (word ∷ fields) place) result d e p q (rw (h, k) refl) (a q)

pub arc_step_stopped : (e : FileFault) (d : Draft) (p : Place) → Fails e (line_at p) → Fails e (arc_step d p)
unfolding arc_step
arc_step_stopped Memory d p h = tt
arc_step_stopped e d p h = rw h refl

pub job_step_read : (c : Class) (machines shared : ℕ) (result : Result Next FileFault) (d e : Draft) (p q after : Place) (line word : List ℕ) (fields : List (List ℕ)) → line_at p ≡ Ok (line, q)
    → fields_of line ≡ word ∷ fields → AfterNext (next_of c machines shared p.at d (word ∷ fields) q) result e after → AfterJob c machines shared result d p e after
unfolding job_step
job_step_read c machines shared result d e p q after line word fields h k a =
    let is : job_step c machines shared d p ≡ next_of c machines shared p.at d (word ∷ fields) q = rw (h, k) refl in
    subst (λ (read : Result (LineRead Draft) FileFault). AfterNext read result e after) (sym is) a

pub job_step_stopped : (c : Class) (machines shared : ℕ) (e : FileFault) (d : Draft) (p : Place) → Fails e (line_at p) → Fails e (job_step c machines shared d p)
unfolding job_step
job_step_stopped c machines shared Memory d p h = tt
job_step_stopped c machines shared e d p h = rw h refl

pub other_line : (c : Class) (machines shared at : ℕ) (may : Bool) (d : Draft) (word : List ℕ) (fields : List (List ℕ)) (p : Place) (read : Result (LineRead Draft) FileFault)
    → may ≡ has_order c.order → bytes_eq word (codes "job") ≡ false → arc_or_end may at d (word ∷ fields) p ≡ read → next_of c machines shared at d (word ∷ fields) p ≡ read
other_line c machines shared at may d word fields p read m h a =
    let is : next_of c machines shared at d (word ∷ fields) p ≡ arc_or_end (has_order c.order) at d (word ∷ fields) p = rw h refl in
    is ∙ subst (λ (b : Bool). arc_or_end b at d (word ∷ fields) p ≡ read) m a
