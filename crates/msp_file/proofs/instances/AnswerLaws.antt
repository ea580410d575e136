-- From the answer to the text: what is read is its instance, and a fault is one that a text can have.
use Rattle.std.proofs.Common.{◌≡◌, ℕ, zero, suc, inl, inr, refl, ◌<◌, List, [], length, get_or, slice_get, Option, Some, Result, Ok, sym, subst, ◌∙◌, arith, Err}
use Rattle.std.proofs.lemmas.Option.{slice_get-get_or}
use Rattle.msp_instance.specs.declared.Instance.{Instance}
use Rattle.msp_instance.specs.declared.membership.ClassFault.{ClassFault}
use Rattle.msp_instance.specs.declared.membership.ClassFault.TheVariants as class_fault
use Rattle.msp_instance.specs.Instance.{no_job}
use Rattle.msp_instance.specs.Conditions.{InClass}
use Rattle.msp_instance.specs.Faults.{turn_of, IsSooner, IsFirstFault}
use Rattle.msp_instance.proofs.FaultLemmas.{Condition-from_meets}
use Rattle.msp_instance.proofs.CycleLemmas.{not_acyclic}
use Rattle.msp_grammar.specs.declared.lines.fault.FileFault.{FileFault}
use Rattle.msp_grammar.specs.declared.lines.fault.FileFault.TheVariants.{Class, Cycle, Memory, After}
use Rattle.msp_grammar.specs.declared.filed.Filed.{Filed}
use Rattle.msp_grammar.specs.InstanceText.{IsInstanceText}
use Rattle.msp_file.specs.instance.Reading.{Reads, ReadsFront}
use Rattle.msp_file.specs.instance.Answers.{faulty_name, IsFaultBy, IsFaultOf, IsFrontFaultOf, IsTextClassFault, IsTextFault, IsFrontFault, IsFrontText}
use Rattle.msp_grammar.specs.lines.Answers.{Fails}
use Rattle.msp_file.proofs.instances.FirstFaults.{earlier}
use Rattle.msp_file.proofs.instances.LineCounts.{front}
use Rattle.msp_grammar.proofs.reading.LineLaws.{reads, ok_is}
use Rattle.msp_file.proofs.instances.Readings.{front_same, reads_same, front_done}
use Rattle.msp_file.proofs.instances.TextLaws.{IsReadText, whole_takes, whole_again, front_takes, front_again, text_read, times_read}

-- ---- what is read

pub instance_text_of : (b : List ℕ) (f : Filed) → IsReadText b f → InClass f.instance → IsInstanceText b f.instance f.names
instance_text_of b f t in_class =
    let c = in_class.conditions in
    record {
      spelling = t.spelling;
      spells = t.spells;
      text = text_read b f t c.some (c.jobs 0 no_job c.some).needs;
      named = record { one_each = t.one_each; spelled = t.spelled; distinct = t.distinct };
      in_class = in_class;
    }

pub text_of_read : (b : List ℕ) (f : Filed) → Reads b (Ok f) → InClass f.instance → IsInstanceText b f.instance f.names
text_of_read b f e in_class = instance_text_of b f (whole_takes b f e) in_class

abbrev pub filed : Instance → List (List ℕ) → Filed
filed i names = record { instance = i; names = names }

abbrev pub given : Instance → List (List ℕ) → Result Filed FileFault
given i names = Ok (filed i names)

pub again_read : (b : List ℕ) (f : Filed) → Reads b (Ok f) → (i : Instance) (names : List (List ℕ)) → IsInstanceText b i names → given i names ≡ Ok f
again_read b f e i names h = reads_same b (given i names) (Ok f) (whole_again b i names h) e

-- ---- an instance of a class has no fault

-- Reading gives one thing, an instance that is in its class.
pub record IsGood (Reading : Result Filed FileFault → Type 0) (good : Filed) : Type 0 where
  pub one : (r s : Result Filed FileFault) → Reading r → Reading s → r ≡ s
  pub read : Reading (Ok good)
  pub in_class : InClass good.instance

in_class_of : (R : Result Filed FileFault → Type 0) (good f : Filed) → IsGood R good → R (Ok f) → InClass f.instance
in_class_of R good f h e = subst (λ (g : Filed). InClass g.instance) (ok_is good f (h.one (Ok good) (Ok f) h.read e)) h.in_class

no_fault : (R : Result Filed FileFault → Type 0) (good : Filed) (e : FileFault) → IsGood R good → IsFaultBy R e → Fails e (reads good)
no_fault R good (Class fault name) h k =
    absurd (k.first.broken (Condition-from_meets k.filed.instance fault (in_class_of R good k.filed h k.reads).conditions k.first.within))
no_fault R good (Cycle job name) h k =
    absurd (not_acyclic k.filed.instance job k.conditions.ends k.least.inside k.least.cycle (in_class_of R good k.filed h k.reads).acyclic)
no_fault R good Memory h k = tt
no_fault R good e h k = h.one (reads good) (Err e) h.read k

pub again_fault : (b : List ℕ) (e : FileFault) → IsFaultOf b e → (i : Instance) (names : List (List ℕ)) → IsInstanceText b i names → Fails e (given i names)
again_fault b e k i names h = no_fault (Reads b) (filed i names) e (record { one = reads_same b; read = whole_again b i names h; in_class = h.in_class }) k

pub front_is_good : (b : List ℕ) (i : Instance) (names : List (List ℕ)) (used line : ℕ) → IsFrontText b i names used line → IsGood (ReadsFront b) (filed i names)
front_is_good b i names used line h =
    let g = front_again b h.text h.rest i names h.whole h.is in
    record { one = front_same b; read = front_done b (filed i names) (record { at = g.0; rest = h.rest }) g.1; in_class = h.is.in_class }

pub again_front_fault : (b : List ℕ) (e : FileFault) → IsFrontFaultOf b e → (i : Instance) (names : List (List ℕ)) (used line : ℕ) → IsFrontText b i names used line → Fails e (given i names)
again_front_fault b e k i names used line h = no_fault (ReadsFront b) (filed i names) e (front_is_good b i names used line h) k

-- ---- the faults of texts

named_job : (f : Filed) (j : ℕ) → length f.names ≡ length f.instance.jobs → j < length f.instance.jobs → slice_get f.names j ≡ Some (get_or f.names j [])
named_job f j even within = slice_get-get_or f.names j [] (omega (arith, even))

-- the needs of the first job are looked at before the times of any job
need_sooner : (j : ℕ) → IsSooner (turn_of (class_fault.Need 0)) (turn_of (class_fault.Unit j))
need_sooner zero = inr (refl, inr (refl, omega arith))
need_sooner (suc j) = inr (refl, inl (omega arith))

class_fault_of : (b : List ℕ) (f : Filed) (fault : ClassFault) (name : Option (List ℕ))
    → IsReadText b f → IsFirstFault f.instance fault → name ≡ faulty_name f.names fault → IsTextClassFault fault name
class_fault_of b f class_fault.Jobs name t first e = subst (IsTextClassFault class_fault.Jobs) (sym e) tt
class_fault_of b f (class_fault.Need j) name t first e = subst (IsTextClassFault (class_fault.Need j)) (sym (e ∙ named_job f j t.one_each first.within)) tt
class_fault_of b f (class_fault.Unit j) name t first e =
    absurd (first.broken (times_read b f t j first.within (first.first (class_fault.Need 0) (omega (arith, first.within)) (need_sooner j))))
class_fault_of b f (class_fault.Degree j) name t first e = subst (IsTextClassFault (class_fault.Degree j)) (sym (e ∙ named_job f j t.one_each first.within)) tt
class_fault_of b f fault name t first e =
    absurd (first.broken (earlier b f t
    (λ g. g ≡ fault) (λ s. absurd cc) (λ k w s. absurd cc) (λ k s. absurd cc) (λ k s. absurd cc) fault first.within refl))

fault_by : (R : Result Filed FileFault → Type 0) (e : FileFault) → ((f : Filed) → R (Ok f) → (text : List ℕ) × IsReadText text f) → IsFaultBy R e → IsTextFault e
fault_by R (Class fault name) takes k = let t = takes k.filed k.reads in class_fault_of t.0 k.filed fault name t.1 k.first k.named
fault_by R e takes k = tt

pub fault_of_text : (b : List ℕ) (e : FileFault) → IsFaultOf b e → IsTextFault e
fault_of_text b e k = fault_by (Reads b) e (λ f h. (b, whole_takes b f h)) k

pub fault_of_front_text : (b : List ℕ) (e : FileFault) → IsFrontFaultOf b e → IsFrontFault e
fault_of_front_text b (After at) k = front b (After at) k
fault_of_front_text b e k = fault_by (ReadsFront b) e (front_takes b) k
