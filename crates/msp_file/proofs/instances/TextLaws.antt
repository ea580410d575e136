-- Whole texts: what is read is an instance text, and an instance text is read as its instance.
use Rattle.std.proofs.Common.{◌≡◌, ◌≢◌, ℕ, ◌<◌, ◌≤◌, false, List, [], ◌∷◌, ◌++◌, length, All, AllPairs, Result, Ok, refl, sym, ap, subst, ◌∙◌, append_assoc, append-nil}
use Rattle.std.proofs.Common.{arith, eqb-true, codes}
use Rattle.std.specs.Prelude.{slice_index_or, true, if◌then◌else◌, decimal}
use Rattle.std.proofs.lemmas.List.{nil_from_length}
use Rattle.std.proofs.lemmas.List.Elements.{All-nil}
use Rattle.msp_class.specs.Env.{kind_of}
use Rattle.msp_class.specs.declared.class.Class.{Class}
use Rattle.msp_class.specs.declared.environments.EnvKind.{EnvKind}
use Rattle.msp_class.specs.declared.environments.EnvKind.TheVariants.{Identical, Uniform, Unrelated, OpenShop, FlowShop, JobShop}
use Rattle.msp_class.specs.declared.class.Times.{Times}
use Rattle.msp_class.specs.declared.class.Times.TheVariants.{General, Unit as UnitTimes, Equal}
use Rattle.msp_class.specs.declared.class.Order.{Order}
use Rattle.msp_class.specs.declared.class.Order.TheVariants.{Free, Chains, Intree, Outtree, Prec}
use Rattle.msp_name.specs.Names.{NameOf}
use Rattle.msp_instance.specs.declared.Instance.{Instance}
use Rattle.msp_instance.specs.declared.Arc.{Arc}
use Rattle.msp_instance.specs.declared.Need.{Need}
use Rattle.msp_instance.specs.Instance.{no_need, no_job, job_at, common_time}
use Rattle.msp_instance.specs.Conditions.{text_limits, least_time, greatest_time, HasNeeds, HasSameTimes, HasMachines, HasSpeeds, HasSmallMultiple, HasArcs, MeetsConditions}
use Rattle.msp_class.specs.declared.sizes.TheConstants.{MOST_JOBS, MOST_ARCS, GREATEST_MULTIPLE}
use Rattle.msp_grammar.specs.declared.lines.fault.FileFault.{FileFault}
use Rattle.msp_grammar.specs.declared.lines.fault.FileFault.TheVariants.{Limit}
use Rattle.msp_grammar.specs.declared.lines.fault.What.TheVariants as what
use Rattle.msp_grammar.specs.declared.filed.Filed.{Filed}
use Rattle.msp_file.specs.declared.instance.draft.Draft.{Draft}
use Rattle.msp_text.specs.JobName.{IsJobName, AreDistinct}
use Rattle.msp_grammar.specs.Layout.{has_order, has_times, has_time_line}
use Rattle.msp_grammar.specs.InstanceText.{line_text, class_text, machines_text, speeds_text, time_text, head_text, jobs_text, arcs_text, instance_text, AreNamesOf, IsInstanceText}
use Rattle.msp_grammar.specs.lines.Reading.{Place, all_of, front_of}
use Rattle.msp_file.specs.instance.Reading.{version_at, class_at, machines_at, speeds_at, time_at, no_draft, filed_of, jobs_from}
use Rattle.msp_file.specs.instance.Reading.{has_multiple, timed_from, speeds_from, lines_at, start_of, Reads, ReadsFront}
use Rattle.msp_grammar.proofs.reading.LineLaws.{bind_ok, provided_ok, bind_again, provided_again, ok_is, Takes, Gets, Takes-then, end_text, spread}
use Rattle.msp_file.proofs.instances.HeadLaws.{AreMachines, IsShared, version_takes, version_again, class_takes, class_again, machines_takes, machines_again, speeds_takes}
use Rattle.msp_file.proofs.instances.HeadLaws.{speeds_again, time_takes, time_again}
use Rattle.msp_file.proofs.instances.NeedLaws.{HaveTime}
use Rattle.msp_file.proofs.instances.JobLaws.{IsReadJob}
use Rattle.msp_file.proofs.instances.ArcLaws.{AreArcs}
use Rattle.msp_file.proofs.instances.JobsLaws.{AreJobs, AddsLines, AreTextJobs, jobs_take, jobs_again, regroup}
use Rattle.msp_file.proofs.instances.Deciding.{small_found, small_there}

-- The lines before those of the jobs, with the time that all operations share.
abbrev pub shared_head : List ℕ → Class → ℕ → List ℕ → ℕ → List ℕ
shared_head spelling c machines speeds shared = line_text (codes "msp" ∷ codes "1" ∷ []) ++ class_text spelling ++ machines_text c.env machines ++ speeds_text c.env speeds ++ time_text c.times shared

-- The text of an instance with the time that all operations share.
abbrev pub shared_text : List ℕ → List (List ℕ) → Instance → ℕ → List ℕ
shared_text spelling names i shared = shared_head spelling i.class i.machines i.speeds shared ++ jobs_text i.class names i.jobs ++ arcs_text names i.arcs ++ line_text (codes "end" ∷ [])

-- What reading the lines says of a text, before the conditions of its class are tested.
pub record IsReadText (b : List ℕ) (f : Filed) : Type 0 where
  pub spelling : List ℕ
  pub spells : NameOf spelling f.instance.class
  pub shared : ℕ
  pub sharing : IsShared f.instance.class.times shared
  pub text : b ≡ shared_text spelling f.names f.instance shared
  pub one_each : length f.names ≡ length f.instance.jobs
  pub spelled : All IsJobName f.names
  pub distinct : AreDistinct f.names
  pub few : length f.instance.jobs ≤ MOST_JOBS
  pub machines : HasMachines f.instance
  pub speeds : HasSpeeds (kind_of f.instance.class.env) f.instance.machines f.instance.speeds
  pub multiple : HasSmallMultiple f.instance.speeds
  pub jobs : All (IsReadJob f.instance.class shared) f.instance.jobs
  pub arcs : HasArcs f.instance.class.order f.instance.arcs
  pub ends : All (λ a. (a.before < length f.instance.jobs) × (a.after < length f.instance.jobs)) f.instance.arcs
  pub once : AllPairs (λ a b. a ≢ b) f.instance.arcs

-- ---- what is read

abbrev version_text : List ℕ
version_text = line_text (codes "msp" ∷ codes "1" ∷ [])

has_arcs : (o : Order) (arcs : List Arc) → (has_order o ≡ false → arcs ≡ []) → length arcs ≤ MOST_ARCS → HasArcs o arcs
has_arcs Free arcs h few = h refl
has_arcs _ arcs h few = few

no_jobs : (c : Class) (shared : ℕ) → AreJobs c shared [] []
no_jobs c shared = record {
  one_each = refl;
  spelled = All-nil IsJobName;
  distinct = λ i j d less within. absurd (omega arith);
  few = omega arith;
  read = All-nil (IsReadJob c shared);
}

-- The text begins with that of what was read.
abbrev pub IsFront : List ℕ → Filed × Place → Type 0
IsFront b x = (front : List ℕ) × (b ≡ front ++ x.1.rest) × IsReadText front x.0

-- the lines of the head and those after it, put together
together : (b spelling : List ℕ) (c : Class) (machines : ℕ) (speeds : List ℕ) (shared : ℕ) (p q r : Place) (d : Draft) → p.rest ≡ b
    → NameOf spelling c → AreMachines c.env machines → HasSpeeds (kind_of c.env) machines speeds → HasSmallMultiple speeds → IsShared c.times shared
    → Takes p (shared_head spelling c machines speeds shared) q → AddsLines c shared [] [] q d r → IsFront b (filed_of c machines speeds d, r)
together b spelling c machines speeds shared p q r d is spells good_machines good_speeds multiple sharing head lines =
    subst (λ (e : Draft). IsFront b (filed_of c machines speeds e, r)) (sym lines.added) found
  where
    jobs : List ℕ
    jobs = jobs_text c lines.more_names lines.more_jobs

    arcs : List ℕ
    arcs = arcs_text lines.more_names lines.arcs

    front : List ℕ
    front = shared_head spelling c machines speeds shared

    filed : Filed
    filed = filed_of c machines speeds (record { names = lines.more_names; jobs = lines.more_jobs; arcs = lines.arcs })

    found : IsFront b (filed, r)
    found = (
      front ++ (jobs ++ arcs ++ end_text),
      sym is ∙ Takes-then p q r front (jobs ++ arcs ++ end_text) head lines.text,
      record {
        spelling = spelling;
        spells = spells;
        shared = shared;
        sharing = sharing;
        text = sym (regroup front jobs arcs end_text);
        one_each = lines.fit.one_each;
        spelled = lines.fit.spelled;
        distinct = lines.fit.distinct;
        few = lines.fit.few;
        machines = good_machines;
        speeds = good_speeds;
        multiple = multiple;
        jobs = lines.fit.read;
        arcs = has_arcs c.order lines.arcs lines.ordered lines.arcs_fit.few;
        ends = subst (λ (n : ℕ). All (λ a. (a.before < n) × (a.after < n)) lines.arcs) lines.fit.one_each lines.arcs_fit.ends;
        once = lines.arcs_fit.once;
      },
    )

pub lines_take : (start : Place) (f : Filed × Place) → lines_at start ≡ Ok f → IsFront start.rest f
unfolding lines_at speeds_from timed_from
lines_take start f h =
    let v = bind_ok (version_at start) _ f h in
    let c = bind_ok (class_at v.0) _ f v.2 in
    let m = bind_ok (machines_at c.0.0.env c.0.1) _ f c.2 in
    let s = bind_ok (speeds_at c.0.0.env m.0.0 m.0.1) _ f m.2 in
    let multiple = provided_ok (has_multiple GREATEST_MULTIPLE s.0.0) (Limit m.0.1.at what.Multiple) _ f s.2 in
    let d = bind_ok (timed_from c.0.0 m.0.0 s.0.1) _ f multiple.1 in
    let t = bind_ok (time_at c.0.0.times s.0.1) _ d.0 d.1 in
    let class_taken = class_takes v.0 c.0 c.1 in
    let machines_taken = machines_takes c.0.0.env c.0.1 m.0 m.1 in
    let speeds_taken = speeds_takes c.0.0.env m.0.0 m.0.1 s.0 s.1 in
    let time_taken = time_takes c.0.0.times s.0.1 t.0 t.1 in
    let lines = jobs_take c.0.0 m.0.0 t.0.0 [] [] no_draft t.0.1 d.0 machines_taken.1.1 (no_jobs c.0.0 t.0.0) refl t.2 in
    let two = Takes-then start v.0 c.0.1 version_text (class_text class_taken.0) (version_takes start v.0 v.1) class_taken.2 in
    let three = Takes-then start c.0.1 m.0.1 (version_text ++ class_text class_taken.0) (machines_text c.0.0.env m.0.0) two machines_taken.0 in
    let four = Takes-then start m.0.1 s.0.1 (version_text ++ class_text class_taken.0 ++ machines_text c.0.0.env m.0.0) (speeds_text c.0.0.env s.0.0) three speeds_taken.0 in
    let head = Takes-then start s.0.1 t.0.1 (version_text ++ class_text class_taken.0 ++ machines_text c.0.0.env m.0.0 ++ speeds_text c.0.0.env s.0.0)
    (time_text c.0.0.times t.0.0) four time_taken.0 in
    let found = together start.rest class_taken.0 c.0.0 m.0.0 s.0.0 t.0.0 start t.0.1 d.0.1 d.0.0 refl class_taken.1 machines_taken.1 speeds_taken.1
    (small_found s.0.0 multiple.0) time_taken.1 head lines in
    subst (IsFront start.rest) (ok_is (filed_of c.0.0 m.0.0 s.0.0 d.0.0, d.0.1) f d.2) found

-- the text ends where the lines do
whole_of : (b : List ℕ) (x : Filed × Place) (f : Filed) → IsFront b x → all_of x ≡ Ok f → IsReadText b f
whole_of b x f t e =
    let g = provided_ok _ _ _ f e in
    let nothing : x.1.rest ≡ [] = nil_from_length x.1.rest (eqb-true _ _ g.0) in
    let whole : b ≡ t.0 = t.1 ∙ ap (λ (r : List ℕ). t.0 ++ r) nothing ∙ append-nil t.0 in
    subst (IsReadText b) (ok_is x.0 f g.1) (subst (λ (a : List ℕ). IsReadText a x.0) (sym whole) t.2)

pub whole_takes : (b : List ℕ) (f : Filed) → Reads b (Ok f) → IsReadText b f
whole_takes b f h =
    let x = bind_ok (lines_at (start_of b)) all_of f h in
    whole_of b x.0 f (lines_take (start_of b) x.0 x.1) x.2

pub front_takes : (b : List ℕ) (f : Filed) → ReadsFront b (Ok f) → (front : List ℕ) × IsReadText front f
front_takes b f h =
    let x = bind_ok (lines_at (start_of b)) front_of f h in
    let t = lines_take (start_of b) x.0 x.1 in
    (t.0, subst (IsReadText t.0) (ok_is x.0.0 f x.2) t.2)

-- ---- the time that all operations share

-- the first operation of the first job, which there is
first_need : (i : Instance) → 1 ≤ length i.jobs → HasNeeds text_limits i (job_at i 0).needs → 1 ≤ length (job_at i 0).needs
first_need i some h = omega (arith, h.some.2)

least_equal : (k : EnvKind) → 1 ≤ least_time k Equal
least_equal Identical = omega arith
least_equal _ = omega arith

-- The time that is read of the text of an instance whose operations share this one.
abbrev shared_time_of : Times → ℕ → ℕ
shared_time_of t common = if has_time_line t then common else 1

shared_is : (t : Times) (common : ℕ) → has_time_line t ≡ true → common ≡ shared_time_of t common
shared_is Equal common e = refl
shared_is _ common e = absurd cc

sharing_of : (t : Times) (k : EnvKind) (common : ℕ) → (least_time k t ≤ common) × (common ≤ greatest_time text_limits t) → IsShared t (shared_time_of t common)
sharing_of Equal k common h = (omega (arith, least_equal k, h.0), h.1)
sharing_of _ k common h = refl

shared_in : (i : Instance) → MeetsConditions text_limits i → IsShared i.class.times (shared_time_of i.class.times (common_time i))
shared_in i h =
    let first = (h.jobs 0 no_job h.some).needs in
    sharing_of i.class.times (kind_of i.class.env) (common_time i) (first.times 0 no_need (first_need i h.some first))

all_same : (t : Times) (common : ℕ) (needs : List Need) → HasSameTimes t common needs → HaveTime (has_times t) (shared_time_of t common) needs
all_same General common needs h = tt
all_same _ common needs h = h

-- what was read has the conditions on times
same_times : (t : Times) (shared common : ℕ) (needs : List Need) → IsShared t shared → (t ≡ Equal → common ≡ shared) → HaveTime (has_times t) shared needs → HasSameTimes t common needs
same_times General shared common needs sharing is h = tt
same_times UnitTimes shared common needs sharing is h = subst (λ (n : ℕ). All (λ (need : Need). need.time ≡ n) needs) sharing h
same_times Equal shared common needs sharing is h = subst (λ (n : ℕ). All (λ (need : Need). need.time ≡ n) needs) (sym (is refl)) h

common_is : (t : Times) (shared : ℕ) (needs : List Need) → 1 ≤ length needs → HaveTime (has_times t) shared needs → t ≡ Equal → (slice_index_or needs 0 no_need).time ≡ shared
common_is General shared needs some h e = absurd cc
common_is UnitTimes shared needs some h e = absurd cc
common_is Equal shared needs some h e = h 0 no_need some

-- the time that was read is that of the first operation
pub common_read : (b : List ℕ) (f : Filed) (t : IsReadText b f) → 1 ≤ length f.instance.jobs
    → HasNeeds text_limits f.instance (job_at f.instance 0).needs → f.instance.class.times ≡ Equal → common_time f.instance ≡ t.shared
common_read b f t some h e = common_is f.instance.class.times t.shared (job_at f.instance 0).needs (first_need f.instance some h) (t.jobs 0 no_job some).times e

pub times_read : (b : List ℕ) (f : Filed) (t : IsReadText b f) (j : ℕ) → j < length f.instance.jobs
    → HasNeeds text_limits f.instance (job_at f.instance 0).needs → HasSameTimes f.instance.class.times (common_time f.instance) (job_at f.instance j).needs
times_read b f t j within h = same_times f.instance.class.times t.shared (common_time f.instance) _ t.sharing (common_read b f t (omega arith) h) (t.jobs j no_job within).times

time_text_is : (t : Times) (shared common : ℕ) → (t ≡ Equal → common ≡ shared) → time_text t shared ≡ time_text t common
unfolding time_text
time_text_is Equal shared common is = ap (λ (n : ℕ). line_text (codes "time" ∷ decimal n ∷ [])) (sym (is refl))
time_text_is _ shared common is = refl

pub text_read : (b : List ℕ) (f : Filed) (t : IsReadText b f)
    → 1 ≤ length f.instance.jobs → HasNeeds text_limits f.instance (job_at f.instance 0).needs → b ≡ instance_text t.spelling f.names f.instance
unfolding instance_text head_text
text_read b f t some h =
    let i = f.instance in
    t.text ∙ ap (λ (line : List ℕ). (version_text ++ class_text t.spelling ++ machines_text i.class.env i.machines ++ speeds_text i.class.env i.speeds ++ line)
    ++ jobs_text i.class f.names i.jobs ++ arcs_text f.names i.arcs ++ end_text) (time_text_is i.class.times t.shared (common_time i) (common_read b f t some h))

-- ---- what is written

arcs_few : (o : Order) (arcs : List Arc) → HasArcs o arcs → (has_order o ≡ false → arcs ≡ []) × (length arcs ≤ MOST_ARCS)
arcs_few Free arcs h = (λ e. h, omega (arith, ap length h))
arcs_few _ arcs h = (λ e. absurd cc, h)

lines_again : (spelling : List ℕ) (i : Instance) (names : List (List ℕ)) (rest : List ℕ) → NameOf spelling i.class → AreNamesOf names i
    → MeetsConditions text_limits i → Gets (lines_at (start_of (instance_text spelling names i ++ rest))) (record { instance = i; names = names }) rest
unfolding lines_at speeds_from timed_from instance_text head_text
lines_again spelling i names rest spells named h = (
  d.0,
  bind_again _ _ _ _ (ap (λ (b : List ℕ). version_at (record { at = 1; rest = b })) text ∙ v.1) (
      bind_again _ _ _ _ c.1 (
      bind_again _ _ _ _ m.1 (
      bind_again _ _ _ _ s.1 (
      provided_again _ _ _ _ (small_there i.speeds h.multiple) (bind_again _ _ _ _ (bind_again _ _ _ _ t.1 d.1) refl))))),
)
  where
    shared : ℕ
    shared = shared_time_of i.class.times (common_time i)

    jobs : List ℕ
    jobs = jobs_text i.class names i.jobs

    arcs : List ℕ
    arcs = arcs_text names i.arcs

    lines : List ℕ
    lines = (jobs ++ arcs ++ end_text) ++ rest

    speeds : List ℕ
    speeds = speeds_text i.class.env i.speeds

    machines : List ℕ
    machines = machines_text i.class.env i.machines

    time : List ℕ
    time = time_text i.class.times (common_time i)

    head : List ℕ
    head = version_text ++ class_text spelling ++ machines ++ speeds ++ time

    text : (head ++ jobs ++ arcs ++ end_text) ++ rest ≡ version_text ++ (class_text spelling ++ (machines ++ (speeds ++ (time ++ lines))))
    text = ap (λ (b : List ℕ). b ++ rest) (regroup head jobs arcs end_text) ∙ append_assoc head (jobs ++ arcs ++ end_text) rest ∙ spread version_text (class_text spelling) machines speeds time lines

    v : (next : ℕ) × (version_at (record { at = 1; rest = version_text ++ (class_text spelling ++ (machines ++ (speeds ++ (time ++ lines)))) })
        ≡ Ok (record { at = next; rest = class_text spelling ++ (machines ++ (speeds ++ (time ++ lines))) }))
    v = version_again 1 (class_text spelling ++ (machines ++ (speeds ++ (time ++ lines))))

    c : Gets (class_at (record { at = v.0; rest = class_text spelling ++ (machines ++ (speeds ++ (time ++ lines))) })) i.class (machines ++ (speeds ++ (time ++ lines)))
    c = class_again v.0 spelling i.class (machines ++ (speeds ++ (time ++ lines))) spells

    m : Gets (machines_at i.class.env (record { at = c.0; rest = machines ++ (speeds ++ (time ++ lines)) })) i.machines (speeds ++ (time ++ lines))
    m = machines_again i c.0 (speeds ++ (time ++ lines)) h.machines

    s : Gets (speeds_at i.class.env i.machines (record { at = m.0; rest = speeds ++ (time ++ lines) })) i.speeds (time ++ lines)
    s = speeds_again i.class.env i.machines m.0 i.speeds (time ++ lines) h.speeds

    t : Gets (time_at i.class.times (record { at = s.0; rest = time ++ lines })) shared lines
    t = time_again i.class.times s.0 (common_time i) shared lines (shared_in i h) (shared_is i.class.times (common_time i))

    few : (has_order i.class.order ≡ false → i.arcs ≡ []) × (length i.arcs ≤ MOST_ARCS)
    few = arcs_few i.class.order i.arcs h.arcs

    fit : AreTextJobs i shared names i.jobs
    fit = record { spelled = named.spelled; distinct = named.distinct; few = h.few; fit = h.jobs; same = λ k e l. all_same i.class.times (common_time i) _ (h.jobs k e l).times }

    arcs_fit : AreArcs names i.arcs
    arcs_fit = record { ends = subst (λ (n : ℕ). All (λ a. (a.before < n) × (a.after < n)) i.arcs) (sym named.one_each) h.ends; once = h.once; few = few.1 }

    d : Gets (jobs_from i.class i.machines shared no_draft (record { at = t.0; rest = lines })) (record { names = names; jobs = i.jobs; arcs = i.arcs }) rest
    d = jobs_again i shared names i.jobs i.arcs [] [] t.0 rest h.machines.1 named.one_each fit arcs_fit few.0 _ (omega arith)

pub front_again : (b text rest : List ℕ) (i : Instance) (names : List (List ℕ))
    → b ≡ text ++ rest → IsInstanceText text i names → Gets (lines_at (start_of b)) (record { instance = i; names = names }) rest
front_again b text rest i names whole h =
    let same : b ≡ instance_text h.spelling names i ++ rest = whole ∙ ap (λ (t : List ℕ). t ++ rest) h.text in
    subst (λ (t : List ℕ). Gets (lines_at (start_of t)) (record { instance = i; names = names }) rest) (sym same) (lines_again h.spelling i names rest h.spells h.named h.in_class.conditions)

pub whole_again : (b : List ℕ) (i : Instance) (names : List (List ℕ)) → IsInstanceText b i names → Reads b (Ok (record { instance = i; names = names }))
whole_again b i names h =
    let g = front_again b b [] i names (sym (append-nil b)) h in bind_again (lines_at (start_of b)) all_of _ _ g.1 refl
