-- What is read at the front of a text is the text of its instance, and is read again.
use Rattle.std.proofs.Common.{◌≡◌, ℕ, ◌-◌, ◌≤◌, List, length, Ok, refl, sym, ◌∙◌, ap, arith, length-append}
use Rattle.msp_instance.specs.declared.Instance.{Instance}
use Rattle.msp_instance.specs.Conditions.{InClass}
use Rattle.msp_grammar.specs.declared.lines.fault.FileFault.{FileFault}
use Rattle.msp_grammar.specs.declared.lines.fault.FileFault.TheVariants.{Memory}
use Rattle.msp_file.specs.declared.instance.read.Front.{Front}
use Rattle.msp_grammar.specs.declared.filed.Filed.{Filed}
use Rattle.msp_grammar.specs.lines.Reading.{Place}
use Rattle.msp_file.specs.instance.Reading.{lines_at, start_of, ReadsFront}
use Rattle.msp_file.specs.instance.Steps.{IsFaultOfFiled}
use Rattle.msp_file.specs.instance.Answers.{IsFrontText, IsFrontFaultOf}
use Rattle.msp_grammar.specs.lines.Answers.{Fails}
use Rattle.msp_file.proofs.instances.Readings.{front_fails, front_done}
use Rattle.msp_grammar.proofs.reading.LineLaws.{reads, ok_is}
use Rattle.msp_file.proofs.instances.LineCounts.{feeds, feeds-append, line_after}
use Rattle.msp_file.proofs.instances.TextLaws.{lines_take, front_again}
use Rattle.msp_file.proofs.instances.AnswerLemmas.{fault_of_front, fault_of_read}
use Rattle.msp_file.proofs.instances.AnswerLaws.{filed, instance_text_of, again_front_fault}

-- what is left is within the text
pub left_within : (b : List ℕ) (f : Filed) (q : Place) → lines_at (start_of b) ≡ Ok (f, q) → length q.rest ≤ length b
left_within b f q h = let t = lines_take (start_of b) (f, q) h in let e = ap length t.1 in omega (arith, length-append t.0 q.rest)

pub front_text : (b : List ℕ) (f : Filed) (q : Place) → lines_at (start_of b) ≡ Ok (f, q) → InClass f.instance → IsFrontText b f.instance f.names (length b - length q.rest) q.at
front_text b f q h in_class =
    let t = lines_take (start_of b) (f, q) h in
    let e = ap length t.1 in
    let line = line_after b (f, q) h in
    let both = ap feeds t.1 in
    record {
      text = t.0;
      rest = q.rest;
      whole = t.1;
      is = instance_text_of t.0 f t.2 in_class;
      long = omega (arith, length-append t.0 q.rest);
      counted = omega (arith, feeds-append t.0 q.rest);
    }

abbrev front : Filed → ℕ → ℕ → Front
front f used line = record { filed = f; used = used; line = line }

same_front : (f : Filed) (used line : ℕ) (g : Filed) (used' line' : ℕ) → f ≡ g → used ≡ used' → line ≡ line' → reads (front f used line) ≡ reads (front g used' line')
same_front f used line g used' line' a b c = rw (a, b, c) refl

abbrev pair : Filed → Place → Filed × Place
pair f p = (f, p)

pair_is : (f g : Filed) (p q : Place) → reads (pair f p) ≡ reads (pair g q) → (f ≡ g) × (p ≡ q)
pair_is f g p q h = let e : pair f p ≡ pair g q = ok_is (pair f p) (pair g q) h in (ap (λ (x : Filed × Place). x.0) e, ap (λ (x : Filed × Place). x.1) e)

pub front_read : (b : List ℕ) (f : Filed) (q : Place)
    → lines_at (start_of b) ≡ Ok (f, q) → InClass f.instance → (i : Instance) (names : List (List ℕ)) (used line : ℕ) → IsFrontText b i names used line
    → reads (front (filed i names) used line) ≡ reads (front f (length b - length q.rest) q.at)
front_read b f q h in_class i names used line t =
    let g = front_again b t.text t.rest i names t.whole t.is in
    let p : Place = record { at = g.0; rest = t.rest } in
    let is = pair_is (filed i names) f p q (sym g.1 ∙ h) in
    let mine = front_text b f q h in_class in
    let rest : t.rest ≡ q.rest = ap (λ (p : Place). p.rest) is.1 in
    let e = ap length t.whole in
    let long = ap length rest in
    let counted = line_after b (filed i names, p) g.1 in
    let both = ap feeds t.whole in
    let at : g.0 ≡ q.at = ap (λ (p : Place). p.at) is.1 in
    same_front (filed i names) used line f (length b - length q.rest) q.at is.0 (omega (arith, t.long, length-append t.text t.rest)) (omega (arith, t.counted, feeds-append t.text t.rest))

pub front_fault : (b : List ℕ) (e : FileFault) → Fails e (lines_at (start_of b)) → IsFrontFaultOf b e
front_fault b e h = fault_of_front b e (front_fails b e h)

pub fails_front : (e : FileFault) (f : Filed) (used line : ℕ) → Fails e (reads f) → Fails e (reads (front f used line))
fails_front Memory f used line h = tt
fails_front e f used line h = absurd cc

pub again_front : (b : List ℕ) (e : FileFault) → IsFrontFaultOf b e
    → (i : Instance) (names : List (List ℕ)) (used line : ℕ) → IsFrontText b i names used line → Fails e (reads (front (filed i names) used line))
again_front b e k i names used line h = fails_front e (filed i names) used line (again_front_fault b e k i names used line h)

pub front_fault_of_filed : (b : List ℕ) (f : Filed) (q : Place) (e : FileFault) → lines_at (start_of b) ≡ Ok (f, q) → IsFaultOfFiled f e → IsFrontFaultOf b e
front_fault_of_filed b f q e h k = fault_of_read (ReadsFront b) f e (front_done b f q h) k
