-- The lines after the head: what is read is the text of the jobs and arcs, and the text of jobs and arcs is read as those.
use Rattle.std.proofs.Common.{◌≡◌, ℕ, ◌<◌, ◌≤◌, Bool, true, false, ◌&&◌, if◌then◌else◌, List, [], ◌∷◌, ◌++◌, length, All, Contains, Some, None, Result, Ok, bytes_eq, codes, refl, sym, ap}
use Rattle.std.proofs.Common.{subst, ◌∙◌, append_assoc, append-nil, arith, length-append}
use Rattle.std.proofs.lemmas.Bool.{both_ways}
use Rattle.std.proofs.lemmas.List.{get_or_at}
use Rattle.std.proofs.lemmas.List.Elements.{All-push, All-nil}
use Rattle.msp_class.specs.declared.class.Class.{Class}
use Rattle.msp_instance.specs.declared.Arc.{Arc}
use Rattle.msp_instance.specs.declared.Job.{Job}
use Rattle.msp_instance.specs.declared.Instance.{Instance}
use Rattle.msp_instance.specs.Conditions.{text_limits, IsJobOf}
use Rattle.msp_class.specs.declared.sizes.TheConstants.{MOST_JOBS, MOST_MACHINES}
use Rattle.msp_grammar.specs.declared.lines.fault.FileFault.{FileFault}
use Rattle.msp_file.specs.declared.instance.draft.Draft.{Draft}
use Rattle.msp_text.specs.JobName.{IsJobName, AreDistinct}
use Rattle.msp_grammar.specs.ScheduleText.{name_at}
use Rattle.msp_grammar.specs.Layout.{has_order, has_times}
use Rattle.msp_grammar.specs.InstanceText.{line_text, key_fields, job_fields, times_text, route_text, curve_text, job_text, jobs_text, arc_fields, arcs_text}
use Rattle.msp_grammar.specs.lines.Reading.{◌>>=◌, Place, line_at, fields_of, first_of, others_of, LineRead, job_read, more_read, end_read, end_at}
use Rattle.msp_file.specs.instance.Reading.{with_arc, arc_step, arc_line_at, job_at_line, arc_or_end, job_step, arcs_from, jobs_from}
use Rattle.msp_text.proofs.NameLists.{same_bytes}
use Rattle.msp_file.proofs.instances.Apart.{apart_push, apart_before}
use Rattle.msp_grammar.proofs.reading.LineLaws.{bind_ok, ok_is, Takes, Gets, Takes-then, fields_takes, line_then, end_text, end_field}
use Rattle.msp_grammar.proofs.reading.Lines.{line_less, Follows, lines_take, GetsLines, line_gets}
use Rattle.msp_file.proofs.instances.NeedLaws.{HaveTime}
use Rattle.msp_file.proofs.instances.JobLaws.{IsReadJob, job_rest, AddsJob, job_takes, job_again, job_line_fields}
use Rattle.msp_file.proofs.instances.ArcLaws.{TakesArc, arc_or_end_takes, arc_again, arc_line_fields, AreArcs, AddsArcs, then_arcs, Arcs, arcs_on, arc_in, arcs_again}

-- ---- what was read

-- Jobs and their names, as reading leaves them.
pub record AreJobs (c : Class) (shared : ℕ) (names : List (List ℕ)) (jobs : List Job) : Type 0 where
  pub one_each : length names ≡ length jobs
  pub spelled : All IsJobName names
  pub distinct : AreDistinct names
  pub few : length jobs ≤ MOST_JOBS
  pub read : All (IsReadJob c shared) jobs

-- The draft before its first arc.
abbrev pub draft_of : List (List ℕ) → List Job → Draft
draft_of names jobs = record { names = names; jobs = jobs; arcs = [] }

-- What the lines after the head or after a job add to the names and jobs so far.
pub record AddsLines (c : Class) (shared : ℕ) (names : List (List ℕ)) (jobs : List Job) (p : Place) (e : Draft) (q : Place) : Type 0 where
  pub more_names : List (List ℕ)
  pub more_jobs : List Job
  pub arcs : List Arc
  pub added : e ≡ record { names = names ++ more_names; jobs = jobs ++ more_jobs; arcs = arcs }
  pub text : Takes p (jobs_text c more_names more_jobs ++ arcs_text (names ++ more_names) arcs ++ end_text) q
  pub fit : AreJobs c shared (names ++ more_names) (jobs ++ more_jobs)
  pub arcs_fit : AreArcs (names ++ more_names) arcs
  pub ordered : has_order c.order ≡ false → arcs ≡ []

pub regroup : (a b c d : List ℕ) → a ++ b ++ c ++ d ≡ a ++ (b ++ c ++ d)
regroup a b c d = ap (λ (x : List ℕ). x ++ d) (append_assoc a b c) ∙ append_assoc a (b ++ c) d

pub job_text_parts : (c : Class) (name : List ℕ) (j : Job) → job_text c name j ≡ line_text (job_fields c name j) ++ job_rest c j
unfolding job_text
job_text_parts c name j = regroup (line_text (job_fields c name j)) (times_text c j) (route_text c j) (curve_text c j)

one_job : (c : Class) (shared : ℕ) (names : List (List ℕ)) (jobs : List Job) (fields : List (List ℕ)) (p q : Place) (e : Draft) (h : AddsJob c shared (draft_of names jobs) fields p e q)
    → AreJobs c shared names jobs
    → AreJobs c shared (names ++ h.name ∷ []) (jobs ++ h.job ∷ [])
one_job c shared names jobs fields p q e h fit =
    record {
      one_each = omega (arith, fit.one_each, length-append names (h.name ∷ []), length-append jobs (h.job ∷ []));
      spelled = All-push IsJobName names h.name fit.spelled h.spelled;
      distinct = apart_push names h.name fit.distinct h.fresh;
      few = omega (arith, h.few, length-append jobs (h.job ∷ []));
      read = All-push (IsReadJob c shared) jobs h.job fit.read h.read;
    }

-- a job, and what the lines after it add
then_job : (c : Class) (shared : ℕ) (names : List (List ℕ)) (jobs : List Job) (fields : List (List ℕ)) (e : Draft) (p q r : Place) (x : Draft × Place) → Takes p (line_text (codes "job" ∷ fields)) q
    → AddsJob c shared (draft_of names jobs) fields q e r → AreJobs c shared names jobs
    → ((all_names : List (List ℕ)) (all_jobs : List Job) → e ≡ draft_of all_names all_jobs → AreJobs c shared all_names all_jobs → AddsLines c shared all_names all_jobs r x.0 x.1)
    → AddsLines c shared names jobs p x.0 x.1
then_job c shared names jobs fields e p q r x t h fit rest =
    let a = rest (names ++ h.name ∷ []) (jobs ++ h.job ∷ []) h.added (one_job c shared names jobs fields q r e h fit) in
    let n : (names ++ h.name ∷ []) ++ a.more_names ≡ names ++ (h.name ∷ a.more_names) = append_assoc names (h.name ∷ []) a.more_names in
    let j : (jobs ++ h.job ∷ []) ++ a.more_jobs ≡ jobs ++ (h.job ∷ a.more_jobs) = append_assoc jobs (h.job ∷ []) a.more_jobs in
    let line : Takes p (line_text (job_fields c h.name h.job)) q = subst (λ (ws : List (List ℕ)). Takes p (line_text (codes "job" ∷ ws)) q) h.line t in
    let one : Takes p (job_text c h.name h.job) r =
    subst (λ (b : List ℕ). Takes p b r) (sym (job_text_parts c h.name h.job)) (Takes-then p q r (line_text (job_fields c h.name h.job)) (job_rest c h.job) line h.text) in
    let others : Takes r (jobs_text c a.more_names a.more_jobs ++ arcs_text (names ++ (h.name ∷ a.more_names)) a.arcs ++ end_text) x.1 =
    subst (λ (ns : List (List ℕ)). Takes r (jobs_text c a.more_names a.more_jobs ++ arcs_text ns a.arcs ++ end_text) x.1) n a.text in
    record {
      more_names = h.name ∷ a.more_names;
      more_jobs = h.job ∷ a.more_jobs;
      arcs = a.arcs;
      added = a.added ∙ ap (λ (ns : List (List ℕ)). record { names = ns; jobs = (jobs ++ h.job ∷ []) ++ a.more_jobs; arcs = a.arcs }) n
          ∙ ap (λ (js : List Job). record { names = names ++ (h.name ∷ a.more_names); jobs = js; arcs = a.arcs }) j;
      text = subst (λ (b : List ℕ). Takes p b x.1) (sym (regroup (job_text c h.name h.job) (jobs_text c a.more_names a.more_jobs) (arcs_text (names ++ (h.name ∷ a.more_names)) a.arcs) end_text))
          (Takes-then p r x.1 (job_text c h.name h.job) (jobs_text c a.more_names a.more_jobs ++ arcs_text (names ++ (h.name ∷ a.more_names)) a.arcs ++ end_text) one others);
      fit = subst (λ (js : List Job). AreJobs c shared (names ++ (h.name ∷ a.more_names)) js) j (subst (λ (ns : List (List ℕ)). AreJobs c shared ns ((jobs ++ h.job ∷ []) ++ a.more_jobs)) n a.fit);
      arcs_fit = subst (λ (ns : List (List ℕ)). AreArcs ns a.arcs) n a.arcs_fit;
      ordered = a.ordered;
    }

-- no job follows
only_arcs : (c : Class) (shared : ℕ) (names : List (List ℕ)) (jobs : List Job) (p q : Place) (e : Draft) (a : AddsArcs (draft_of names jobs) p e q)
    → AreJobs c shared names jobs → (has_order c.order ≡ false → a.more ≡ []) → AddsLines c shared names jobs p e q
only_arcs c shared names jobs p q e a fit ordered =
    let n : names ≡ names ++ [] = sym (append-nil names) in
    let j : jobs ≡ jobs ++ [] = sym (append-nil jobs) in
    record {
      more_names = [];
      more_jobs = [];
      arcs = a.more;
      added = a.added ∙ ap (λ (ns : List (List ℕ)). record { names = ns; jobs = jobs; arcs = a.more }) n ∙ ap (λ (js : List Job). record { names = names ++ []; jobs = js; arcs = a.more }) j;
      text = subst (λ (ns : List (List ℕ)). Takes p (arcs_text ns a.more ++ end_text) q) n a.text;
      fit = subst (λ (js : List Job). AreJobs c shared (names ++ []) js) j (subst (λ (ns : List (List ℕ)). AreJobs c shared ns jobs) n fit);
      arcs_fit = subst (λ (ns : List (List ℕ)). AreArcs ns a.more) n a.fit;
      ordered = ordered;
    }

no_arc : (names : List (List ℕ)) → AreArcs names []
no_arc names = record { ends = All-nil (λ a. (a.before < length names) × (a.after < length names)); once = λ i j d less within. absurd (omega arith); few = omega arith }

-- what is read of the fields of a line after the head or after a job
abbrev job_next : Class → ℕ → ℕ → ℕ → Draft → List (List ℕ) → Place → Result (LineRead Draft) FileFault
job_next c machines shared at d fields q =
    if bytes_eq (first_of fields) (codes "job")
    then (job_at_line c machines shared d at (others_of fields) q >>= λ more. Ok (job_read more.0 more.1))
    else arc_or_end (has_order c.order) at d fields q

-- What a line after the head or after a job says.
abbrev pub TakesLine : Class → ℕ → Draft → Place → LineRead Draft → Type 0
TakesLine c shared d p (job_read e r) = (fields : List (List ℕ)) × (q : Place) × Takes p (line_text (codes "job" ∷ fields)) q × AddsJob c shared d fields q e r
TakesLine c shared d p (more_read e q) = TakesArc (has_order c.order) d p (more_read e q)
TakesLine c shared d p (end_read e q) = TakesArc (has_order c.order) d p (end_read e q)

no_job_line : (c : Class) (shared : ℕ) (d : Draft) (p : Place) (next : LineRead Draft) → TakesArc (has_order c.order) d p next → TakesLine c shared d p next
no_job_line c shared d p (job_read e q) h = absurd h
no_job_line c shared d p next h = h

pub job_step_takes : (c : Class) (machines shared : ℕ) (d : Draft) (p : Place) (next : LineRead Draft)
    → machines ≤ MOST_MACHINES → job_step c machines shared d p ≡ Ok next → TakesLine c shared d p next
unfolding job_step
job_step_takes c machines shared d p next bound e =
    let l = bind_ok (line_at p) _ next e in
    line_by (fields_of l.0.0) l.0.1 (fields_takes p l.0 l.1) (bytes_eq (first_of (fields_of l.0.0)) (codes "job")) refl l.2
  where
    line_by : (fields : List (List ℕ)) (q : Place) → Takes p (line_text (first_of fields ∷ others_of fields)) q → (b : Bool) → bytes_eq (first_of fields) (codes "job") ≡ b
        → (if b then (job_at_line c machines shared d p.at (others_of fields) q >>= λ more. Ok (job_read more.0 more.1)) else arc_or_end (has_order c.order) p.at d fields q)
        ≡ Ok next → TakesLine c shared d p next
    line_by fields q t true is e =
        let j = bind_ok _ _ next e in
        let line = subst (λ (w : List ℕ). Takes p (line_text (w ∷ others_of fields)) q) (same_bytes (first_of fields) (codes "job") is) t in
        subst (TakesLine c shared d p) (ok_is (job_read j.0.0 j.0.1) next j.2) (others_of fields, q, line, job_takes c machines shared d p.at (others_of fields) q j.0 bound j.1)
    line_by fields q t false is e = no_job_line c shared d p next (arc_or_end_takes (has_order c.order) p.at d fields p q next t e)

-- the line of a draft that has no arcs
job_line_of : (c : Class) (machines shared : ℕ) (names : List (List ℕ)) (jobs : List Job) (d : Draft) (p : Place) (next : LineRead Draft)
    → machines ≤ MOST_MACHINES → d ≡ draft_of names jobs → job_step c machines shared d p ≡ Ok next → TakesLine c shared (draft_of names jobs) p next
job_line_of c machines shared names jobs d p next bound same e = subst (λ (y : Draft). TakesLine c shared y p next) same (job_step_takes c machines shared d p next bound e)

abbrev Lines : Class → ℕ → Draft → Place → Draft × Place → Type 0
Lines c shared d p x = (names : List (List ℕ)) (jobs : List Job) → AreJobs c shared names jobs → d ≡ draft_of names jobs → AddsLines c shared names jobs p x.0 x.1

jobs_on : (c : Class) (machines shared : ℕ) → machines ≤ MOST_MACHINES → (d : Draft) (p : Place) (line : LineRead Draft) (x : Draft × Place)
    → job_step c machines shared d p ≡ Ok line → Follows (Some arcs_from) (Lines c shared) line x → Lines c shared d p x
jobs_on c machines shared bound d p line x e k names jobs fit same = by line (job_line_of c machines shared names jobs d p line bound same e) k
  where
    by : (line : LineRead Draft) → TakesLine c shared (draft_of names jobs) p line → Follows (Some arcs_from) (Lines c shared) line x → AddsLines c shared names jobs p x.0 x.1
    by (job_read e q) t k = then_job c shared names jobs t.0 e p t.1 q x t.2 t.3 fit (λ ns js also good. k ns js good also)
    by (more_read e q) t k =
        let a = then_arcs (draft_of names jobs) t.0 e p q x t.1 t.2 (no_arc names) (λ good. lines_take arc_step None Arcs arcs_on _ e q x k good) in
        only_arcs c shared names jobs p x.1 x.0 a fit (λ f. absurd (both_ways (has_order c.order) f t.3))
    by (end_read e q) t k = subst (λ (y : Draft × Place). AddsLines c shared names jobs p y.0 y.1) (sym (k ∙ ap (λ (y : Draft). (y, q)) t.0))
        (only_arcs c shared names jobs p q (draft_of names jobs) (record { more = []; added = refl; text = t.1; fit = no_arc names }) fit (λ f. refl))

pub jobs_take : (c : Class) (machines shared : ℕ) (names : List (List ℕ)) (jobs : List Job) (d : Draft) (p : Place) (x : Draft × Place)
    → machines ≤ MOST_MACHINES → AreJobs c shared names jobs → d ≡ draft_of names jobs → jobs_from c machines shared d p ≡ Ok x → AddsLines c shared names jobs p x.0 x.1
jobs_take c machines shared names jobs d p x bound fit same e =
    lines_take (job_step c machines shared) (Some arcs_from) (Lines c shared) (jobs_on c machines shared bound) _ d p x e names jobs fit same

-- ---- what was written

neither : {A : Type 0} → (b : Bool) (x y : A) → (if b && false then x else y) ≡ y
neither true x y = refl
neither false x y = refl

chosen : {A : Type 0} → (b : Bool) (x y : A) → b ≡ true → (if b && true then x else y) ≡ x
chosen true x y h = refl
chosen false x y h = absurd cc

-- a class whose arcs are not empty has an order
has_some : (b : Bool) (a : Arc) (more : List Arc) → (b ≡ false → a ∷ more ≡ []) → b ≡ true
has_some true a more h = refl
has_some false a more h = let e = h refl in absurd cc

-- the arcs, after the last job
arcs_then : (i : Instance) (shared : ℕ) (names : List (List ℕ)) (jobs : List Job) (arcs : List Arc) (at : ℕ) (rest : List ℕ)
    → AreDistinct names → All IsJobName names → AreArcs names arcs → (has_order i.class.order ≡ false → arcs ≡ [])
    → GetsLines (job_step i.class i.machines shared) (Some arcs_from) (draft_of names jobs) (record { at = at; rest = (arcs_text names arcs ++ end_text) ++ rest })
    (record { names = names; jobs = jobs; arcs = arcs }) rest
unfolding job_step
arcs_then i shared names jobs [] at rest apart spelled fit ordered =
    let l = line_then (job_next i.class i.machines shared at (draft_of names jobs)) at (codes "end") [] rest end_field in
    let q : Place = record { at = l.0; rest = rest } in
    let last : job_next i.class i.machines shared at (draft_of names jobs) (codes "end" ∷ []) q ≡ Ok (end_read (draft_of names jobs) q) =
    neither (has_order i.class.order) (arc_line_at at (draft_of names jobs) [] >>= λ e. Ok (more_read e q)) (Ok (end_read (draft_of names jobs) q)) in
    line_gets (job_step i.class i.machines shared) (Some arcs_from) (draft_of names jobs) _ (end_read (draft_of names jobs) q) (draft_of names jobs) rest (l.1 ∙ last) (λ n enough. (l.0, refl))
arcs_then i shared names jobs (a ∷ more) at rest apart spelled fit ordered =
    let d : Draft = draft_of names jobs in
    let in_range = arc_in names [] a more fit in
    let fields = name_at names a.before ∷ name_at names a.after ∷ [] in
    let left = (arcs_text names more ++ end_text) ++ rest in
    let l = line_then (job_next i.class i.machines shared at (draft_of names jobs)) at (codes "arc") fields left (arc_line_fields names a spelled in_range.0 in_range.1) in
    let q : Place = record { at = l.0; rest = left } in
    let first : job_next i.class i.machines shared at (draft_of names jobs) (codes "arc" ∷ fields) q ≡ (arc_line_at at (draft_of names jobs) fields >>= λ e. Ok (more_read e q)) =
    chosen (has_order i.class.order) (arc_line_at at (draft_of names jobs) fields >>= λ e. Ok (more_read e q))
    (end_at at (draft_of names jobs) (codes "arc" ∷ fields) q) (has_some (has_order i.class.order) a more ordered) in
    let one = arc_again at (draft_of names jobs) a apart spelled in_range.0 in_range.1 in_range.2 in_range.3 in
    let step : job_step i.class i.machines shared (draft_of names jobs) (record { at = at; rest = (arcs_text names (a ∷ more) ++ end_text) ++ rest })
    ≡ Ok (more_read (with_arc (draft_of names jobs) a.before a.after) q) = ap (λ (b : List ℕ). job_step i.class i.machines shared (draft_of names jobs) (record { at = at; rest = b }))
    (regroup (line_text (arc_fields names a)) (arcs_text names more) end_text rest) ∙ l.1 ∙ first ∙ ap (λ r. r >>= λ e. Ok (more_read e q)) one in
    let g = arcs_again more (with_arc (draft_of names jobs) a.before a.after) l.0 rest apart spelled in_range.4 in
    line_gets (job_step i.class i.machines shared) (Some arcs_from) (draft_of names jobs) _ (more_read (with_arc (draft_of names jobs) a.before a.after) q) _ rest step (λ n enough. g _ (omega arith))

-- a name and a job at their places among others
record AreIn (i : Instance) (shared : ℕ) (names : List (List ℕ)) (jobs : List Job) (name : List ℕ) (j : Job) : Type 0 where
  spelled : IsJobName name
  fresh : ¬ Contains names name
  few : length jobs < MOST_JOBS
  job : IsJobOf text_limits i j
  same : HaveTime (has_times i.class.times) shared j.needs

-- The operations of a job share the time, where times are not written.
abbrev pub IsSameJob : Instance → ℕ → Job → Type 0
IsSameJob i shared j = HaveTime (has_times i.class.times) shared j.needs

-- Jobs and their names that a text can have.
pub record AreTextJobs (i : Instance) (shared : ℕ) (names : List (List ℕ)) (jobs : List Job) : Type 0 where
  pub spelled : All IsJobName names
  pub distinct : AreDistinct names
  pub few : length jobs ≤ MOST_JOBS
  pub fit : All (IsJobOf text_limits i) jobs
  pub same : All (IsSameJob i shared) jobs

job_in : (i : Instance) (shared : ℕ) (names : List (List ℕ)) (jobs : List Job) (name : List ℕ) (more_names : List (List ℕ)) (j : Job) (more : List Job)
    → AreTextJobs i shared (names ++ name ∷ more_names) (jobs ++ j ∷ more) → AreIn i shared names jobs name j
job_in i shared names jobs name more_names j more fit =
    record {
      spelled = subst IsJobName (get_or_at names name more_names [] (length names) refl) (fit.spelled (length names) [] (omega (arith, length-append names (name ∷ more_names))));
      fresh = apart_before names name more_names fit.distinct;
      few = omega (arith, fit.few, length-append jobs (j ∷ more));
      job = subst (IsJobOf text_limits i) (get_or_at jobs j more j (length jobs) refl) (fit.fit (length jobs) j (omega (arith, length-append jobs (j ∷ more))));
      same = subst (IsSameJob i shared) (get_or_at jobs j more j (length jobs) refl) (fit.same (length jobs) j (omega (arith, length-append jobs (j ∷ more))));
    }

-- a job is read, and after it what comes after it
job_then_again : (i : Instance) (shared : ℕ) (name : List ℕ) (more_names : List (List ℕ))
    (j : Job) (more : List Job) (arcs : List Arc) (names : List (List ℕ)) (jobs : List Job) (at : ℕ) (rest : List ℕ) → i.machines ≤ MOST_MACHINES
    → AreTextJobs i shared (names ++ (name ∷ more_names)) (jobs ++ (j ∷ more)) → AreArcs (names ++ (name ∷ more_names)) arcs
    → ((next : ℕ) → AreTextJobs i shared ((names ++ name ∷ []) ++ more_names) ((jobs ++ j ∷ []) ++ more) → AreArcs ((names ++ name ∷ []) ++ more_names) arcs
    → GetsLines (job_step i.class i.machines shared) (Some arcs_from) (draft_of (names ++ name ∷ []) (jobs ++ j ∷ []))
    (record { at = next; rest = (jobs_text i.class more_names more ++ arcs_text ((names ++ name ∷ []) ++ more_names) arcs ++ end_text) ++ rest })
    (record { names = (names ++ name ∷ []) ++ more_names; jobs = (jobs ++ j ∷ []) ++ more; arcs = arcs }) rest)
    → GetsLines (job_step i.class i.machines shared) (Some arcs_from) (draft_of names jobs)
    (record { at = at; rest = (jobs_text i.class (name ∷ more_names) (j ∷ more) ++ arcs_text (names ++ (name ∷ more_names)) arcs ++ end_text) ++ rest })
    (record { names = names ++ (name ∷ more_names); jobs = jobs ++ (j ∷ more); arcs = arcs }) rest
unfolding job_step
job_then_again i shared name more_names j more arcs names jobs at rest machines fit arcs_fit again =
    line_gets (job_step i.class i.machines shared) (Some arcs_from) (draft_of names jobs) _ (job_read (draft_of (names ++ name ∷ []) (jobs ++ j ∷ [])) (record { at = one.0; rest = left })) _ rest
    (ap (λ (b : List ℕ). job_step i.class i.machines shared (draft_of names jobs) (record { at = at; rest = b })) text ∙ l.1 ∙ ap (λ r. r >>= λ e. Ok (job_read e.0 e.1)) one.1)
    (λ n enough. g n (omega (arith, less)))
  where
    all_names : List (List ℕ)
    all_names = names ++ (name ∷ more_names)

    all_jobs : List Job
    all_jobs = jobs ++ (j ∷ more)

    n_is : (names ++ name ∷ []) ++ more_names ≡ all_names
    n_is = append_assoc names (name ∷ []) more_names

    j_is : (jobs ++ j ∷ []) ++ more ≡ all_jobs
    j_is = append_assoc jobs (j ∷ []) more

    others : List ℕ
    others = jobs_text i.class more_names more ++ arcs_text all_names arcs ++ end_text

    left : List ℕ
    left = others ++ rest

    line : List ℕ
    line = line_text (job_fields i.class name j)

    text : (jobs_text i.class (name ∷ more_names) (j ∷ more) ++ arcs_text all_names arcs ++ end_text) ++ rest ≡ line ++ (job_rest i.class j ++ left)
    text =
        ap (λ (b : List ℕ). b ++ rest) (regroup (job_text i.class name j) (jobs_text i.class more_names more) (arcs_text all_names arcs) end_text)
        ∙ append_assoc (job_text i.class name j) others rest
        ∙ ap (λ (b : List ℕ). b ++ left) (job_text_parts i.class name j)
        ∙ append_assoc line (job_rest i.class j) left

    here : AreIn i shared names jobs name j
    here = job_in i shared names jobs name more_names j more fit

    l : (next : ℕ) × ((line_at (record { at = at; rest = line ++ (job_rest i.class j ++ left) }) >>= λ l. job_next i.class i.machines shared at (draft_of names jobs) (fields_of l.0) l.1)
        ≡ job_next i.class i.machines shared at (draft_of names jobs) (codes "job" ∷ name ∷ key_fields i.class j) (record { at = next; rest = job_rest i.class j ++ left }))
    l = line_then (job_next i.class i.machines shared at (draft_of names jobs)) at
        (codes "job") (name ∷ key_fields i.class j) (job_rest i.class j ++ left) (job_line_fields i name j here.spelled here.job)

    one : Gets (job_at_line i.class i.machines shared (draft_of names jobs) at (name ∷ key_fields i.class j) (record { at = l.0; rest = job_rest i.class j ++ left }))
        (draft_of (names ++ name ∷ []) (jobs ++ j ∷ [])) left
    one = job_again i (draft_of names jobs) at l.0 shared name j left machines here.job here.same here.spelled here.fresh here.few

    fit_on : AreTextJobs i shared ((names ++ name ∷ []) ++ more_names) ((jobs ++ j ∷ []) ++ more)
    fit_on = subst (λ (js : List Job). AreTextJobs i shared ((names ++ name ∷ []) ++ more_names) js) (sym j_is) (subst (λ (ns : List (List ℕ)). AreTextJobs i shared ns all_jobs) (sym n_is) fit)

    less : length left < length ((jobs_text i.class (name ∷ more_names) (j ∷ more) ++ arcs_text all_names arcs ++ end_text) ++ rest)
    less =
        let more_left = line_less (job_fields i.class name j) (record { at = at; rest = line ++ (job_rest i.class j ++ left) }) (record { at = at; rest = job_rest i.class j ++ left }) refl in
        let k = ap length text in
        omega (arith, length-append (job_rest i.class j) left)

    Reads : List ℕ → Draft → Type 0
    Reads text d = GetsLines (job_step i.class i.machines shared) (Some arcs_from) (draft_of (names ++ name ∷ []) (jobs ++ j ∷ [])) (record { at = one.0; rest = text }) d rest

    before : Reads ((jobs_text i.class more_names more ++ arcs_text ((names ++ name ∷ []) ++ more_names) arcs ++ end_text) ++ rest)
        (record { names = (names ++ name ∷ []) ++ more_names; jobs = (jobs ++ j ∷ []) ++ more; arcs = arcs })
    before = again one.0 fit_on (subst (λ (ns : List (List ℕ)). AreArcs ns arcs) (sym n_is) arcs_fit)

    g : Reads left (record { names = all_names; jobs = all_jobs; arcs = arcs })
    g = subst (λ (js : List Job). Reads left (record { names = all_names; jobs = js; arcs = arcs })) j_is
        (subst (λ (ns : List (List ℕ)). Reads ((jobs_text i.class more_names more ++ arcs_text ns arcs ++ end_text) ++ rest)
        (record { names = ns; jobs = (jobs ++ j ∷ []) ++ more; arcs = arcs })) n_is before)

pub jobs_again : (i : Instance) (shared : ℕ) (more_names : List (List ℕ)) (more : List Job) (arcs : List Arc) (names : List (List ℕ)) (jobs : List Job) (at : ℕ) (rest : List ℕ)
    → i.machines ≤ MOST_MACHINES → length more_names ≡ length more
    → AreTextJobs i shared (names ++ more_names) (jobs ++ more) → AreArcs (names ++ more_names) arcs → (has_order i.class.order ≡ false → arcs ≡ [])
    → GetsLines (job_step i.class i.machines shared) (Some arcs_from) (draft_of names jobs)
    (record { at = at; rest = (jobs_text i.class more_names more ++ arcs_text (names ++ more_names) arcs ++ end_text) ++ rest })
    (record { names = names ++ more_names; jobs = jobs ++ more; arcs = arcs }) rest
jobs_again i shared [] [] arcs names jobs at rest machines even fit arcs_fit ordered =
    let Reads : List ℕ → Draft → Type 0 = λ text d. GetsLines (job_step i.class i.machines shared) (Some arcs_from) (draft_of names jobs) (record { at = at; rest = text }) d rest in
    let here : Reads ((arcs_text names arcs ++ end_text) ++ rest) (record { names = names; jobs = jobs; arcs = arcs }) =
    arcs_then i shared names jobs arcs at rest (subst AreDistinct (append-nil names) fit.distinct)
    (subst (All IsJobName) (append-nil names) fit.spelled) (subst (λ (ns : List (List ℕ)). AreArcs ns arcs) (append-nil names) arcs_fit) ordered in
    let named = subst (λ (ns : List (List ℕ)). Reads ((arcs_text ns arcs ++ end_text) ++ rest) (record { names = ns; jobs = jobs; arcs = arcs })) (sym (append-nil names)) here in
    subst (λ (js : List Job). Reads ((arcs_text (names ++ []) arcs ++ end_text) ++ rest) (record { names = names ++ []; jobs = js; arcs = arcs })) (sym (append-nil jobs)) named
jobs_again i shared (name ∷ more_names) (j ∷ more) arcs names jobs at rest machines even fit arcs_fit ordered =
    job_then_again i shared name more_names j more arcs names jobs at rest machines fit arcs_fit
    (λ next fit_on arcs_on. jobs_again i shared more_names more arcs (names ++ name ∷ []) (jobs ++ j ∷ []) next rest machines (omega (arith, even)) fit_on arcs_on ordered)
jobs_again i shared _ _ arcs names jobs at rest machines even fit arcs_fit ordered = absurd (omega (arith, even))
