-- Each text has one value or one first fault.
use Rattle.std.proofs.Common.{◌≡◌, ◌≢◌, ℕ, ◌-◌, ◌<◌, ◌⊎◌, inl, inr, List, length, slice_get, Option, Some, Result, Ok, Err, All, refl, sym, ◌∙◌, subst, arith}
use Rattle.std.proofs.lemmas.Bool.{cases_lt}
use Rattle.msp_name.specs.OneWay.{AreReadOneWay}
use Rattle.msp_instance.specs.declared.membership.ClassFault.{ClassFault}
use Rattle.msp_instance.specs.Conditions.{MeetsConditions, text_limits}
use Rattle.msp_instance.specs.Faults.{IsFirstFault}
use Rattle.msp_instance.specs.Paths.{HasPath}
use Rattle.msp_instance.proofs.FaultLemmas.{Condition-from_meets, IsFirstFault-unique}
use Rattle.msp_text.specs.JobName.{IsJobName, AreDistinct}
use Rattle.msp_grammar.specs.declared.filed.Filed.{Filed}
use Rattle.msp_grammar.specs.declared.lines.fault.FileFault.{FileFault}
use Rattle.msp_grammar.specs.declared.lines.fault.FileFault.TheVariants.{Class, Cycle, Memory, After}
use Rattle.msp_file.specs.declared.instance.read.Front.{Front}
use Rattle.msp_grammar.specs.declared.filed.Stated.{Stated}
use Rattle.msp_grammar.specs.lines.Reading.{Place}
use Rattle.msp_file.specs.instance.Reading.{filed_at, Reads, ReadsFront, lines_at, start_of}
use Rattle.msp_grammar.specs.lines.Answers.{Fails}
use Rattle.msp_file.specs.schedule.Reading.{ReadsSchedule}
use Rattle.msp_file.specs.instance.Answers.{IsClassFault, IsCycleFault, IsFaultBy}
use Rattle.msp_file.specs.schedule.Answers.{IsScheduleFaultOf}
use Rattle.msp_file.specs.Laws.{IsTextOf, IsFirstFaultOf, IsFrontOf, IsFirstFrontFaultOf, IsStatedTextOf, IsFirstScheduleFaultOf, LawOfInstanceTexts, LawOfFrontTexts, LawOfScheduleTexts}
use Rattle.msp_grammar.proofs.reading.LineLaws.{reads, ok_is}
use Rattle.msp_file.proofs.instances.Readings.{reads_same, front_same, front_done}
use Rattle.msp_file.proofs.schedules.Readings.{schedule_same, schedule_ends}
use Rattle.msp_file.proofs.instances.TextLaws.{lines_take, whole_takes, whole_again, front_again}
use Rattle.msp_file.proofs.instances.AnswerLaws.{text_of_read, again_fault, again_front_fault}
use Rattle.msp_file.proofs.instances.FrontLaws.{front_text, front_fault, front_read}
use Rattle.msp_file.proofs.instances.LineFaults.{IsLineFault}
use Rattle.msp_file.proofs.instances.LineCounts.{lines_counted, whole}
use Rattle.msp_file.proofs.schedules.LineFaults.{schedule_remembers}
use Rattle.msp_file.proofs.instances.AnswerLemmas.{fault_of_lines}
use Rattle.msp_file.proofs.instances.FirstFaults.{class_or_fault}
use Rattle.msp_file.proofs.schedules.ScheduleLaws.{schedule_again, schedule_taken, no_schedule_fault}
use Rattle.msp_grammar.proofs.reading.Readings.{err_is, not_fails}

-- ---- one first fault

-- what a first fault is: one of the lines, a condition of the class, or a cycle
abbrev Cases : (Result Filed FileFault → Type 0) → FileFault → Type 0
Cases R e =
    R (Err e)
    ⊎ (((x : ClassFault) × (name : Option (List ℕ)) × (e ≡ Class x name) × IsClassFault R x name)
    ⊎ ((j : ℕ) × (name : List ℕ) × (e ≡ Cycle j name) × IsCycleFault R j name))

cases_of : (R : Result Filed FileFault → Type 0) (e : FileFault) → e ≢ Memory → IsFaultBy R e → Cases R e
cases_of R (Class x name) m h = inr (inl (x, name, refl, h))
cases_of R (Cycle j name) m h = inr (inr (j, name, refl, h))
cases_of R Memory m h = absurd (m refl)
cases_of R e m h = inl h

module _ (R : Result Filed FileFault → Type 0) (one : (r s : Result Filed FileFault) → R r → R s → r ≡ s) where
  one_filed : (f g : Filed) → R (Ok f) → R (Ok g) → f ≡ g
  one_filed f g h k = ok_is f g (one (Ok f) (Ok g) h k)

  not_read : (e : FileFault) (f : Filed) → R (Err e) → R (Ok f) → ⊥
  not_read e f h k = let x = one (Err e) (Ok f) h k in absurd cc

  two_classes : (x y : ClassFault) (n m : Option (List ℕ)) → IsClassFault R x n → IsClassFault R y m → Class x n ≡ Class y m
  two_classes x y n m a b =
      let s = one_filed a.filed b.filed a.reads b.reads in
      let same : x ≡ y = IsFirstFault-unique b.filed.instance x y (subst (λ (g : Filed). IsFirstFault g.instance x) s a.first) b.first in
      cc (same, s, a.named, b.named)

  class_and_cycle : (x : ClassFault) (j : ℕ) (n : Option (List ℕ)) (m : List ℕ) → IsClassFault R x n → ¬ IsCycleFault R j m
  class_and_cycle x j n m a b =
      let s = one_filed b.filed a.filed b.reads a.reads in
      let meets = subst (λ (g : Filed). MeetsConditions text_limits g.instance) s b.conditions in
      a.first.broken (Condition-from_meets a.filed.instance x meets a.first.within)

  two_cycles : (j k : ℕ) (n m : List ℕ) → IsCycleFault R j n → IsCycleFault R k m → Cycle j n ≡ Cycle k m
  two_cycles j k n m a b =
      let s = one_filed a.filed b.filed a.reads b.reads in
      let named : slice_get b.filed.names j ≡ Some n = subst (λ (g : Filed). slice_get g.names j ≡ Some n) s a.named in
      let path = subst (λ (g : Filed). (i : ℕ) → i < j → ¬ HasPath g.instance.arcs i i) s a.least.least in
      let cycle = subst (λ (g : Filed). HasPath g.instance.arcs j j) s a.least.cycle in
      elim (cases_lt j k) [
        | inl less ↦ absurd (b.least.least j less cycle)
        | inr past ↦ elim (cases_lt k j) [
          | inl less ↦ absurd (path k less b.least.cycle)
          | inr here ↦
              let same : j ≡ k = omega arith in
              cc (same, named, b.named)
        ]
      ]

  same_fault : (e f : FileFault) → Cases R e → Cases R f → e ≡ f
  same_fault e f (inl h) (inl k) = err_is e f (one (Err e) (Err f) h k)
  same_fault e f (inl h) (inr (inl k)) = absurd (not_read e k.3.filed h k.3.reads)
  same_fault e f (inl h) (inr (inr k)) = absurd (not_read e k.3.filed h k.3.reads)
  same_fault e f (inr (inl h)) (inl k) = absurd (not_read f h.3.filed k h.3.reads)
  same_fault e f (inr (inl h)) (inr (inl k)) = h.2 ∙ two_classes h.0 k.0 h.1 k.1 h.3 k.3 ∙ sym k.2
  same_fault e f (inr (inl h)) (inr (inr k)) = absurd (class_and_cycle h.0 k.0 h.1 k.1 h.3 k.3)
  same_fault e f (inr (inr h)) (inl k) = absurd (not_read f h.3.filed k h.3.reads)
  same_fault e f (inr (inr h)) (inr (inl k)) = absurd (class_and_cycle k.0 h.0 k.1 h.1 k.3 h.3)
  same_fault e f (inr (inr h)) (inr (inr k)) = h.2 ∙ two_cycles h.0 k.0 h.1 k.1 h.3 k.3 ∙ sym k.2

  one_first : (e f : FileFault) → IsFaultBy R e × (e ≢ Memory) → IsFaultBy R f × (f ≢ Memory) → e ≡ f
  one_first e f h k = same_fault e f (cases_of R e h.1 h.0) (cases_of R f k.1 k.0)

-- ---- texts at the front

pub one_front : (b : List ℕ) (f g : Front) → IsFrontOf b f → IsFrontOf b g → f ≡ g
one_front b f g h k =
    let a = front_again b h.text h.rest f.filed.instance f.filed.names h.whole h.is in
    let q : Place = record { at = a.0; rest = h.rest } in
    let in_class = h.is.in_class in
    let one = front_read b f.filed q a.1 in_class f.filed.instance f.filed.names f.used f.line h in
    let two = front_read b f.filed q a.1 in_class g.filed.instance g.filed.names g.used g.line k in
    ok_is f g (one ∙ sym two)

-- ---- each has an instance or a first fault

fails_by : {A : Type 0} (r : Result A FileFault) (e : FileFault) → r ≡ Err e → Fails e r
fails_by r Memory h = tt
fails_by r e h = h

text_fault_is : (e : FileFault) → IsLineFault e ⊎ ((at : ℕ) × (e ≡ After at)) → e ≢ Memory
text_fault_is e (inl h) m = subst IsLineFault m h
text_fault_is e (inr h) m = let is : After h.0 ≡ Memory = sym h.1 ∙ m in absurd cc

some_instance : (b : List ℕ) (r : Result Filed FileFault) → Reads b r → ((f : Filed) × IsTextOf b f) ⊎ ((e : FileFault) × IsFirstFaultOf b e)
some_instance b (Ok f) h = elim (class_or_fault b f (whole_takes b f h) (Reads b) h) [ inl c ↦ inl (f, text_of_read b f h c) | inr e ↦ inr e ]
some_instance b (Err e) h = inr (e, (fault_of_lines b e (fails_by (filed_at b) e h), text_fault_is e (whole b e h)))

some_front : (b : List ℕ) (r : Result (Filed × Place) FileFault) → lines_at (start_of b) ≡ r → ((f : Front) × IsFrontOf b f) ⊎ ((e : FileFault) × IsFirstFrontFaultOf b e)
some_front b (Ok x) h =
    let t = lines_take (start_of b) x h in
    elim (class_or_fault t.0 x.0 t.2 (ReadsFront b) (front_done b x.0 x.1 h)) [
      | inl c ↦ inl (record { filed = x.0; used = length b - length x.1.rest; line = x.1.at }, front_text b x.0 x.1 h c)
      | inr e ↦ inr e
    ]
some_front b (Err e) h =
    inr (e, (front_fault b e (fails_by (lines_at (start_of b)) e h), λ m. subst IsLineFault m ((lines_counted (start_of b)).faults.fault e h)))

pub law_of_instance_texts : LawOfInstanceTexts
law_of_instance_texts = record {
  some = λ b. some_instance b (filed_at b) refl;
  not_both = λ b f e h k. not_fails e f k.1 (again_fault b e k.0 f.instance f.names h);
  one_value = λ b f g h k. one_filed (Reads b) (reads_same b) f g (whole_again b f.instance f.names h) (whole_again b g.instance g.names k);
  one_fault = λ b e f h k. one_first (Reads b) (reads_same b) e f h k;
}

pub law_of_front_texts : LawOfFrontTexts
law_of_front_texts = record {
  some = λ b. some_front b (lines_at (start_of b)) refl;
  not_both = λ b f e h k. not_fails e f.filed k.1 (again_front_fault b e k.0 f.filed.instance f.filed.names f.used f.line h);
  one_value = one_front;
  one_fault = λ b e f h k. one_first (ReadsFront b) (front_same b) e f h k;
}

-- ---- schedules

module _ (names : List (List ℕ)) (line : ℕ) (spelled : All IsJobName names) (apart : AreDistinct names) where
  reads_fault : (b : List ℕ) (e : FileFault) → IsScheduleFaultOf names line b e → e ≢ Memory → ReadsSchedule names line b (Err e)
  reads_fault b Memory h m = absurd (m refl)
  reads_fault b e h m = h

  some_schedule : (b : List ℕ) (r : Result Stated FileFault) → ReadsSchedule names line b r → ((s : Stated) × IsStatedTextOf names b s) ⊎ ((e : FileFault) × IsFirstScheduleFaultOf names line b e)
  some_schedule b (Ok s) h = inl (s, schedule_taken names line b s h)
  some_schedule b (Err Memory) h = absurd (schedule_remembers names line b h)
  some_schedule b (Err e) h = inr (e, (h, λ m. absurd cc))

  pub schedules_one_way : AreReadOneWay (IsStatedTextOf names) (IsFirstScheduleFaultOf names line)
  schedules_one_way = record {
    some = λ b. let r = schedule_ends names line b in some_schedule b r.0 r.1;
    not_both = λ b s e h k. not_fails e s k.1 (no_schedule_fault names line b e spelled apart k.0 s.schedule s.cost h);
    one_value = λ b s t h k. ok_is s t
        (schedule_same names line b (reads s) (reads t) (schedule_again names line b s.schedule s.cost spelled apart h) (schedule_again names line b t.schedule t.cost spelled apart k));
    one_fault = λ b e f h k. err_is e f (schedule_same names line b (Err e) (Err f) (reads_fault b e h.0 h.1) (reads_fault b f k.0 k.1));
  }

pub law_of_schedule_texts : LawOfScheduleTexts
law_of_schedule_texts names line spelled apart = schedules_one_way names line spelled apart
