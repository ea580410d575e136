-- The lines of a job: what is read is the text of a job, and the text of a job is read as that job.
use Rattle.std.proofs.Common.{◌≡◌, ◌↔◌, ℕ, ◌<◌, ◌≤◌, Bool, true, false, ◌&&◌, List, [], ◌∷◌, ◌++◌, length, Ok, Contains, refl, sym, ap, subst, ◌∙◌, codes, arith}
use Rattle.std.specs.Prelude.{ℤ, slice_index_or, nat_lt, if◌then◌else◌}
use Rattle.std.specs.List.{AllByRecursion}
use Rattle.std.proofs.lemmas.Bool.{lt-ltb, ltb-true}
use Rattle.std.proofs.lemmas.List.{append_assoc}
use Rattle.msp_class.specs.declared.environments.EnvKind.{EnvKind}
use Rattle.msp_class.specs.declared.environments.EnvKind.TheVariants.{Identical, Uniform}
use Rattle.msp_class.specs.Env.{kind_of}
use Rattle.msp_class.specs.Crit.{uses_due, uses_weight, uses_curve}
use Rattle.msp_class.specs.declared.class.Class.{Class}
use Rattle.msp_class.specs.declared.class.Env.{Env}
use Rattle.msp_class.specs.declared.class.Times.{Times}
use Rattle.msp_class.specs.declared.class.Times.TheVariants.{General}
use Rattle.msp_instance.specs.declared.Need.{Need}
use Rattle.msp_instance.specs.declared.Job.{Job}
use Rattle.msp_instance.specs.declared.Instance.{Instance}
use Rattle.msp_instance.specs.Instance.{no_need}
use Rattle.msp_instance.specs.Conditions.{text_limits, HasShape, HasTimes, least_time, greatest_time, HasRelease, HasDue, HasWeight, HasCurve, IsJobOf}
use Rattle.msp_class.specs.declared.sizes.TheConstants.{MOST_JOBS, MOST_MACHINES, GREATEST}
use Rattle.msp_grammar.specs.declared.lines.fault.What.TheVariants as what
use Rattle.msp_grammar.specs.declared.lines.fault.FileFault.TheVariants.{Limit}
use Rattle.msp_file.specs.declared.instance.draft.Draft.{Draft}
use Rattle.msp_text.specs.JobName.{IsJobName}
use Rattle.msp_grammar.specs.Layout.{has_times, has_one_time, has_time_key}
use Rattle.msp_grammar.specs.InstanceText.{job_fields, key_fields, times_text, route_text, curve_text}
use Rattle.msp_grammar.specs.lines.Reading.{Place}
use Rattle.msp_file.specs.instance.Reading.{job_line_at, needs_at, curve_at, job_of, time_in, job_at_line}
use Rattle.msp_grammar.proofs.reading.LineLaws.{bind_ok, provided_ok, ok_is, Takes, Takes-then, Gets, IsField, bind_again, provided_again}
use Rattle.msp_file.proofs.instances.KeyLaws.{IsKeyed, IsKeyedInteger, AreKeys, key_words, time_of, keys_of, key_fields_are, key_words_fields, job_line_takes, job_line_again}
use Rattle.msp_grammar.proofs.reading.CostLaws.{plain_word}
use Rattle.msp_grammar.proofs.reading.FieldLaws.{name_field}
use Rattle.msp_file.proofs.instances.NeedLaws.{HaveTime, needs_text, needs_takes, needs_again}
use Rattle.msp_file.proofs.instances.CurveLaws.{curve_line, curve_takes, curve_again}

-- What reading alone says of a job: the conditions of its class but for that of its needs, with the time that all operations share.
pub record IsReadJob (c : Class) (shared : ℕ) (j : Job) : Type 0 where
  pub times : HaveTime (has_times c.times) shared j.needs
  pub release : HasRelease text_limits c.heads j.release
  pub due : HasDue text_limits (uses_due c.crit) j.due
  pub weight : HasWeight (uses_weight c.crit) j.weight
  pub curve : HasCurve text_limits (uses_curve c.crit) j.curve

-- The draft with one more job at the end.
abbrev pub with_job : Draft → List ℕ → Job → Draft
with_job d name j = record { names = d.names ++ name ∷ []; jobs = d.jobs ++ j ∷ []; arcs = d.arcs }

-- The lines of a job after its first one.
abbrev pub job_rest : Class → Job → List ℕ
job_rest c j = times_text c j ++ route_text c j ++ curve_text c j

-- What the lines of a job add to a draft.
pub record AddsJob (c : Class) (shared : ℕ) (d : Draft) (fields : List (List ℕ)) (p : Place) (e : Draft) (q : Place) : Type 0 where
  pub name : List ℕ
  pub job : Job
  pub added : e ≡ with_job d name job
  pub line : fields ≡ name ∷ key_fields c job
  pub text : Takes p (job_rest c job) q
  pub spelled : IsJobName name
  pub fresh : ¬ Contains d.names name
  pub read : IsReadJob c shared job
  pub few : length d.jobs < MOST_JOBS

-- the bounds of keys are those of the class
release_is : (there : Bool) (r : ℕ) → IsKeyed there 0 GREATEST r ↔ HasRelease text_limits there r
release_is true r = (λ h. h.1, λ h. (omega arith, h))
release_is false r = (λ h. h, λ h. h)

due_is : (there : Bool) (d : ℤ) → IsKeyedInteger there GREATEST d ↔ HasDue text_limits there d
due_is true d = (λ h. h, λ h. h)
due_is false d = (λ h. h, λ h. h)

weight_is : (there : Bool) (w : ℕ) → IsKeyed there 1 GREATEST w ↔ HasWeight there w
weight_is true w = (λ h. h, λ h. h)
weight_is false w = (λ h. h, λ h. h)

-- the one time of a job is in range
keyed_time : (t : Times) (k : EnvKind) (e : Env) (m : ℕ) (needs : List Need) → HasShape k e m needs → HasTimes (least_time k t) (greatest_time text_limits t) needs
    → IsKeyed (has_times t && has_one_time k) 1 GREATEST (time_of (has_times t && has_one_time k) needs)
keyed_time General Identical e m needs shape h = h 0 no_need (omega (arith, shape.0))
keyed_time General Uniform e m needs shape h = h 0 no_need (omega (arith, shape.0))
keyed_time _ _ e m needs shape h = refl

-- times that are written are those of texts
written_times : (t : Times) (least : ℕ) (needs : List Need) → HasTimes least (greatest_time text_limits t) needs → has_times t ≡ true → HasTimes least GREATEST needs
written_times General least needs h e = h
written_times _ least needs h e = absurd cc

keys_are : (i : Instance) (j : Job) → IsJobOf text_limits i j → AreKeys i.class (keys_of i.class j)
keys_are i j h =
    record {
      time = keyed_time i.class.times (kind_of i.class.env) i.class.env i.machines j.needs h.needs.shape h.needs.times;
      release = (release_is i.class.heads j.release).1 h.release;
      due = (due_is (uses_due i.class.crit) j.due).1 h.due;
      weight = (weight_is (uses_weight i.class.crit) j.weight).1 h.weight;
    }

-- the keys that are read are those of the job
time_same : (keyed : Bool) (needs : List Need) (time shared : ℕ)
    → (keyed ≡ true → (slice_index_or needs 0 no_need).time ≡ (if keyed then time else shared)) → IsKeyed keyed 1 GREATEST time → time ≡ time_of keyed needs
time_same true needs time shared h k = sym (h refl)
time_same false needs time shared h k = k

-- where times are not written, the operations share one
time_shared : (timed one : Bool) (keyed shared : ℕ) (needs : List Need) → HaveTime timed (if timed && one then keyed else shared) needs ↔ HaveTime timed shared needs
time_shared true one keyed shared needs = (λ h. tt, λ h. tt)
time_shared false one keyed shared needs = (λ h. h, λ h. h)

first_given : (keyed : Bool) (shared : ℕ) (needs : List Need) → keyed ≡ true → (if keyed then time_of keyed needs else shared) ≡ (slice_index_or needs 0 no_need).time
first_given true shared needs e = refl
first_given false shared needs e = absurd cc

pub job_takes : (c : Class) (machines shared : ℕ) (d : Draft) (at : ℕ) (fields : List (List ℕ)) (p : Place) (x : Draft × Place)
    → machines ≤ MOST_MACHINES → job_at_line c machines shared d at fields p ≡ Ok x → AddsJob c shared d fields p x.0 x.1
unfolding job_at_line times_text route_text curve_text
job_takes c machines shared d at fields p x bound e =
    let g = provided_ok (nat_lt (length d.jobs) MOST_JOBS) (Limit at what.Jobs) _ x e in
    let a = bind_ok (job_line_at c at d.names fields) _ x g.1 in
    let b = bind_ok (needs_at c machines (time_in c shared a.0.1) p) _ x a.2 in
    let v = bind_ok (curve_at c.crit b.0.1) _ x b.2 in
    let line = job_line_takes c at d.names fields a.0 a.1 in
    let needs = needs_takes c machines (time_in c shared a.0.1) p b.0 bound b.1 in
    let curve = curve_takes c.crit b.0.1 v.0 v.1 in
    let job : Job = job_of a.0.1 b.0.0 v.0.0 in
    let same : a.0.1.time ≡ time_of (has_time_key c) b.0.0 = time_same (has_time_key c) b.0.0 a.0.1.time shared needs.keyed line.3.time in
    let keys : a.0.1 ≡ keys_of c job = ap (λ t. record a.0.1 { time = t }) same in
    subst (λ (y : Draft × Place). AddsJob c shared d fields p y.0 y.1) {x = (with_job d a.0.0 job, v.0.1)} (ok_is _ x v.2) (
    record {
      name = a.0.0;
      job = job;
      added = refl;
      line = line.0 ∙ ap (λ k. a.0.0 ∷ key_words c k []) keys ∙ ap (λ ws. a.0.0 ∷ ws) (sym (key_fields_are c job));
      text = Takes-then p b.0.1 v.0.1 (needs_text (has_times c.times) (kind_of c.env) b.0.0) (curve_line c.crit v.0.0) needs.text curve.0;
      spelled = line.1;
      fresh = line.2;
      read = record {
        times = (time_shared (has_times c.times) (has_one_time (kind_of c.env)) a.0.1.time shared b.0.0).0 needs.times;
        release = (release_is c.heads a.0.1.release).0 line.3.release;
        due = (due_is (uses_due c.crit) a.0.1.due).0 line.3.due;
        weight = (weight_is (uses_weight c.crit) a.0.1.weight).0 line.3.weight;
        curve = curve.1;
      };
      few = ltb-true _ _ g.0;
    })

pub job_again : (i : Instance) (d : Draft) (at next shared : ℕ) (name : List ℕ) (j : Job) (rest : List ℕ) → i.machines ≤ MOST_MACHINES
    → IsJobOf text_limits i j → HaveTime (has_times i.class.times) shared j.needs → IsJobName name → ¬ Contains d.names name → length d.jobs < MOST_JOBS
    → Gets (job_at_line i.class i.machines shared d at (name ∷ key_fields i.class j) (record { at = next; rest = job_rest i.class j ++ rest })) (with_job d name j) rest
unfolding job_at_line times_text route_text curve_text
job_again i d at next shared name j rest machines h same spelled fresh few =
    let c = i.class in
    let keys = keys_of i.class j in
    let time = time_in i.class shared (keys_of i.class j) in
    let line = ap (λ ws. job_line_at i.class at d.names (name ∷ ws)) (key_fields_are i.class j) ∙ job_line_again i.class at d.names name (keys_of i.class j) spelled fresh (keys_are i j h) in
    let text = needs_text (has_times i.class.times) (kind_of i.class.env) j.needs in
    let lines : (text ++ curve_line i.class.crit j.curve) ++ rest ≡ text ++ (curve_line i.class.crit j.curve ++ rest) = append_assoc _ (curve_line i.class.crit j.curve) rest in
    let last = (time_shared (has_times c.times) (has_one_time (kind_of c.env)) (time_of (has_time_key c) j.needs) shared j.needs).1 same in
    let needs = needs_again i.class i.machines time next j.needs (curve_line i.class.crit j.curve ++ rest)
    machines h.needs.shape (written_times i.class.times _ j.needs h.needs.times) last (first_given (has_time_key i.class) shared j.needs) in
    let curve = curve_again i.class.crit needs.0 j.curve rest h.curve in (
      curve.0,
      provided_again _ _ _ _ (lt-ltb _ _ few) (
          bind_again _ _ _ _ line (
          bind_again _ _ _ _ (ap (λ w. needs_at i.class i.machines time (record { at = next; rest = w })) lines ∙ needs.1) (
          bind_again _ _ _ _ curve.1 refl))),
    )

-- the fields of a job's line can stand in a line
pub job_line_fields : (i : Instance) (name : List ℕ) (j : Job) → IsJobName name → IsJobOf text_limits i j → AllByRecursion IsField (job_fields i.class name j)
job_line_fields i name j spelled h =
    (plain_word (codes "job") refl refl, (name_field name spelled, subst (AllByRecursion IsField) (sym (key_fields_are i.class j)) (key_words_fields i.class (keys_of i.class j) (keys_are i j h))))
