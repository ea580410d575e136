-- The lines of jobs and of lists of jobs: what is read is what was written, and what was written is read again.
use Rattle.std.proofs.Common.{◌≡◌, ℕ, suc, ◌+◌, ◌<◌, ◌≤◌, Bool, true, false, not, ◌&&◌, ◌||◌, ◌==◌, if◌then◌else◌, List, [], ◌∷◌, ◌++◌, length, Ok, None, Some, All, bytes_eq, codes}
use Rattle.std.proofs.Common.{refl, sym, ap, subst, ◌∙◌, append_assoc, append-nil, length-append, arith}
use Rattle.std.specs.List.{AllByRecursion}
use Rattle.std.proofs.lemmas.Bool.{and_parts, eqb-true, ne_eqb}
use Rattle.std.proofs.lemmas.List.{nil_from_length}
use Rattle.std.proofs.lemmas.List.Elements.{All-nil, All-head, All-tail, All-push, All-pop}
use Rattle.msp_text.specs.JobName.{IsJobName, AreDistinct}
use Rattle.msp_text.proofs.NameLists.{same_bytes}
use Rattle.msp_grammar.specs.ScheduleText.{name_at}
use Rattle.msp_grammar.specs.declared.lines.fault.FileFault.TheVariants.{Count}
use Rattle.msp_cert_text.specs.declared.kinds.TheConstants.{MOST_LINES}
use Rattle.msp_cert_text.specs.CertificateText.{job_line, job_lines, segment_lines, lines_text, AreJobs}
use Rattle.msp_cert_text.specs.Reading.{job_in, job_added, jobs_by, jobs_step, with_job, segment_added, is_segment_word, segments_by, segments_step, segments_from}
use Rattle.msp_grammar.specs.lines.Reading.{◌>>=◌, provided, Place, line_at, fields_of, first_of, others_of, known_at, LineRead, end_read, goes_on, lines_from}
use Rattle.msp_grammar.proofs.reading.LineLaws.{bind_ok, provided_ok, ok_is, bind_again, IsField, fields_takes, one_field, end_text, Gets}
use Rattle.msp_grammar.proofs.reading.Lines.{GetsLines}
use Rattle.msp_grammar.proofs.reading.FieldLaws.{known_takes, known_again, name_field}
use Rattle.msp_cert_text.proofs.KindLaws.{Adds, TakesOne, kind_takes, may_again, last_on, end_on, step_on, line_on}
use Rattle.msp_cert_text.proofs.SegmentLaws.{with_job_last, begin_lines, push_lines, job_lines-push}

-- ---- one job

job_takes : (names : List (List ℕ)) (at : ℕ) (fields : List (List ℕ)) (j : ℕ) → job_in names at fields ≡ Ok j → (fields ≡ name_at names j ∷ []) × (j < length names)
unfolding job_in
job_takes names at fields j e =
    let one = provided_ok (length fields == 1) (Count at) (known_at at names (first_of fields)) j e in
    let known = known_takes at names (first_of fields) j one.1 in
    (one_field fields one.0 ∙ ap (λ (w : List ℕ). w ∷ []) known.0, known.1)

module _ (names : List (List ℕ)) (apart : AreDistinct names) (spelled : All IsJobName names) where
  job_again : (at j : ℕ) → j < length names → job_in names at (name_at names j ∷ []) ≡ Ok j
  unfolding job_in
  job_again at j h = known_again at names j apart spelled h

  job_fields : (j : ℕ) → j < length names → AllByRecursion IsField (job_line names j)
  job_fields j h = (record { no_space = refl; no_line_feed = refl }, (name_field _ (spelled j [] h), tt))

-- ---- jobs

-- Jobs that a text can have after so many lines of a kind.
pub record AreJobLines (names : List (List ℕ)) (before : ℕ) (jobs : List ℕ) : Type 0 where
  pub inside : AreJobs names jobs
  pub few : before + length jobs ≤ MOST_LINES

job_added_takes : (names : List (List ℕ)) (at before : ℕ) (jobs : List ℕ) (fields : List (List ℕ)) (e : List ℕ) → AreJobLines names before jobs
    → before + length jobs < MOST_LINES → job_added names at jobs fields ≡ Ok e → Adds (job_lines names) (AreJobLines names before) jobs (codes "job" ∷ fields) e
unfolding job_added
job_added_takes names at before jobs fields e fit room h =
    let j = bind_ok (job_in names at fields) _ e h in
    let t = job_takes names at fields j.0 j.1 in
    let one : Adds (job_lines names) (AreJobLines names before) jobs (codes "job" ∷ fields) (jobs ++ j.0 ∷ []) = (
      job_lines-push names jobs j.0 ∙ ap (λ (ws : List (List ℕ)). job_lines names jobs ++ (codes "job" ∷ ws) ∷ []) (sym t.0),
      record { inside = All-push (λ k. k < length names) jobs j.0 fit.inside t.1; few = omega (arith, length-append jobs (j.0 ∷ [])) },
    ) in
    subst (Adds (job_lines names) (AreJobLines names before) jobs (codes "job" ∷ fields)) (ok_is (jobs ++ j.0 ∷ []) e j.2) one

pub jobs_takes : (names : List (List ℕ)) (before : ℕ) (jobs : List ℕ) (p : Place) (next : LineRead (List ℕ))
    → AreJobLines names before jobs → jobs_step names before jobs p ≡ Ok next → TakesOne (job_lines names) (AreJobLines names before) jobs p next
unfolding jobs_step
jobs_takes names before jobs p next fit e =
    let l = bind_ok (line_at p) _ next e in
    let fields = fields_of l.0.0 in
    kind_takes (job_lines names) (AreJobLines names before) (before + length jobs) (bytes_eq (first_of fields) (codes "job")) (job_added names) jobs p.at fields p l.0.1 next (fields_takes p l.0 l.1)
    (λ e word room added.
    let is : first_of fields ≡ codes "job" = same_bytes (first_of fields) (codes "job") word in
    subst (λ (w : List ℕ). Adds (job_lines names) (AreJobLines names before) jobs (w ∷ others_of fields) e) (sym is) (job_added_takes names p.at before jobs (others_of fields) e fit room added))
    l.2

pub jobs_again : (names : List (List ℕ)) (before : ℕ) (more jobs : List ℕ) (at : ℕ) (rest : List ℕ)
    → AreDistinct names → All IsJobName names → AreJobs names more → before + length jobs + length more ≤ MOST_LINES
    → GetsLines (jobs_step names before) None jobs (record { at = at; rest = (lines_text (job_lines names more) ++ end_text) ++ rest }) (jobs ++ more) rest
unfolding job_added jobs_step
jobs_again names before [] jobs at rest apart spelled inside room =
    let g = end_on (jobs_step names before) (jobs_by names before) (λ d p. refl) jobs at rest (λ q. refl) in
    subst (λ (js : List ℕ). GetsLines (jobs_step names before) None jobs (record { at = at; rest = end_text ++ rest }) js rest) (sym (append-nil jobs)) g
jobs_again names before (j ∷ more) jobs at rest apart spelled inside room =
    let here = All-head (λ k. k < length names) j more inside in
    line_on (jobs_step names before) (jobs_by names before) (λ d p. refl)
    jobs (jobs ++ j ∷ []) (jobs ++ j ∷ more) (codes "job") (name_at names j ∷ []) (job_lines names more) at rest (job_fields names apart spelled j here)
    (λ q. may_again (before + length jobs) true (job_added names) jobs (jobs ++ j ∷ []) at (job_line names j) q refl (omega arith) (bind_again _ _ _ _ (job_again names apart spelled at j here) refl))
    (λ next.
    subst (λ (js : List ℕ). GetsLines (jobs_step names before) None (jobs ++ j ∷ []) (record { at = next; rest = (lines_text (job_lines names more) ++ end_text) ++ rest }) js rest)
    (append_assoc jobs (j ∷ []) more)
    (jobs_again names before more (jobs ++ j ∷ []) next rest apart spelled (All-tail (λ k. k < length names) j more inside) (omega (arith, length-append jobs (j ∷ [])))))

-- ---- lists of jobs

nonzero : (n : ℕ) → not (suc n == 0) ≡ true
nonzero n = ap not (ne_eqb (suc n) 0 (λ e. omega (arith, e)))

-- Lists that are some and a last one.
record EndsWith (lists : List (List ℕ)) : Type 0 where
  done : List (List ℕ)
  last : List ℕ
  is : lists ≡ done ++ last ∷ []

ends_with : (lists : List (List ℕ)) → not (length lists == 0) ≡ true → EndsWith lists
ends_with [] h = absurd cc
ends_with (a ∷ []) h = record { done = []; last = a; is = refl }
ends_with (a ∷ b ∷ lists) h = let r = ends_with (b ∷ lists) (nonzero (length lists)) in record { done = a ∷ r.done; last = r.last; is = ap (λ ls. a ∷ ls) r.is }

-- Lists of jobs that a text can have.
pub record AreListLines (names lists : List (List ℕ)) : Type 0 where
  pub inside : All (AreJobs names) lists
  pub few : length (segment_lines names lists) ≤ MOST_LINES

begin_adds : (names lists : List (List ℕ)) → AreListLines names lists
    → length (segment_lines names lists) < MOST_LINES → Adds (segment_lines names) (AreListLines names) lists (codes "segment" ∷ []) (lists ++ [] ∷ [])
begin_adds names lists fit room = (
  begin_lines names lists,
  record {
    inside = All-push (AreJobs names) lists [] fit.inside (All-nil (λ k. k < length names));
    few = omega (arith, ap length (begin_lines names lists), length-append (segment_lines names lists) ((codes "segment" ∷ []) ∷ []));
  },
)

push_adds : (names done : List (List ℕ)) (last : List ℕ) (j : ℕ) → AreListLines names (done ++ last ∷ []) → length (segment_lines names (done ++ last ∷ [])) < MOST_LINES → j < length names
    → Adds (segment_lines names) (AreListLines names) (done ++ last ∷ []) (job_line names j) (with_job (done ++ last ∷ []) j)
push_adds names done last j fit room h =
    let parts = All-pop (AreJobs names) (done ++ last ∷ []) done (Some last) refl fit.inside in
    let all = All-push (AreJobs names) done (last ++ j ∷ []) parts.0 (All-push (λ k. k < length names) last j parts.1 h) in (
      push_lines names done last j,
      record {
        inside = subst (All (AreJobs names)) (sym (with_job_last done last j)) all;
        few = omega (arith, ap length (push_lines names done last j), length-append (segment_lines names (done ++ last ∷ [])) (job_line names j ∷ []));
      },
    )

or_parts : (a b c : Bool) → (a || (b && c)) ≡ true → a ≡ false → (b ≡ true) × (c ≡ true)
or_parts true b c h n = absurd cc
or_parts false b c h n = and_parts b c h

segment_added_takes : (names : List (List ℕ)) (at : ℕ) (lists fields : List (List ℕ)) (e : List (List ℕ))
    → AreListLines names lists → is_segment_word lists (first_of fields) ≡ true → length (segment_lines names lists) < MOST_LINES
    → segment_added names (first_of fields) at lists (others_of fields) ≡ Ok e → Adds (segment_lines names) (AreListLines names) lists (first_of fields ∷ others_of fields) e
unfolding segment_added
segment_added_takes names at lists fields e fit word room = by (bytes_eq (first_of fields) (codes "segment")) refl
  where
    by : (b : Bool) → bytes_eq (first_of fields) (codes "segment") ≡ b
        → (if b then provided (length (others_of fields) == 0) (Count at) (Ok (lists ++ [] ∷ [])) else (job_in names at (others_of fields) >>= λ job. Ok (with_job lists job))) ≡ Ok e
        → Adds (segment_lines names) (AreListLines names) lists (first_of fields ∷ others_of fields) e
    by true is h =
        let none = provided_ok (length (others_of fields) == 0) (Count at) (Ok (lists ++ [] ∷ [])) e h in
        let first : first_of fields ≡ codes "segment" = same_bytes (first_of fields) (codes "segment") is in
        let others : others_of fields ≡ [] = nil_from_length (others_of fields) (eqb-true _ _ none.0) in
        let one = subst (Adds (segment_lines names) (AreListLines names) lists (codes "segment" ∷ [])) (ok_is (lists ++ [] ∷ []) e none.1) (begin_adds names lists fit room) in
        subst (λ (w : List ℕ). Adds (segment_lines names) (AreListLines names) lists (w ∷ others_of fields) e)
        (sym first) (subst (λ (ws : List (List ℕ)). Adds (segment_lines names) (AreListLines names) lists (codes "segment" ∷ ws) e) (sym others) one)
    by false is h =
        let j = bind_ok (job_in names at (others_of fields)) _ e h in
        let t = job_takes names at (others_of fields) j.0 j.1 in
        let parts = or_parts (bytes_eq (first_of fields) (codes "segment")) (not (length lists == 0)) (bytes_eq (first_of fields) (codes "job")) word is in
        let first : first_of fields ≡ codes "job" = same_bytes (first_of fields) (codes "job") parts.1 in
        let ends = ends_with lists parts.0 in
        let one = push_adds names ends.done ends.last j.0 (subst (AreListLines names) ends.is fit) (subst (λ (ls : List (List ℕ)). length (segment_lines names ls) < MOST_LINES) ends.is room) t.1 in
        let here = subst (λ (ls : List (List ℕ)). Adds (segment_lines names) (AreListLines names) ls (job_line names j.0) (with_job ls j.0)) (sym ends.is) one in
        let last = subst (Adds (segment_lines names) (AreListLines names) lists (job_line names j.0)) (ok_is (with_job lists j.0) e j.2) here in
        subst (λ (w : List ℕ). Adds (segment_lines names) (AreListLines names) lists (w ∷ others_of fields) e)
        (sym first) (subst (λ (ws : List (List ℕ)). Adds (segment_lines names) (AreListLines names) lists (codes "job" ∷ ws) e) (sym t.0) last)

pub segments_takes : (names lists : List (List ℕ)) (p : Place) (next : LineRead (List (List ℕ)))
    → AreListLines names lists → segments_step names lists p ≡ Ok next → TakesOne (segment_lines names) (AreListLines names) lists p next
unfolding segments_step
segments_takes names lists p next fit e =
    let l = bind_ok (line_at p) _ next e in
    let fields = fields_of l.0.0 in
    kind_takes (segment_lines names) (AreListLines names) (length (segment_lines names lists))
    (is_segment_word lists (first_of fields)) (segment_added names (first_of fields)) lists p.at fields p l.0.1 next (fields_takes p l.0 l.1)
    (λ e word room added. segment_added_takes names p.at lists fields e fit word room added) l.2

-- after some lists jobs may stand
may_stand : (done : List (List ℕ)) (last : List ℕ) → is_segment_word (done ++ last ∷ []) (codes "job") ≡ true
may_stand [] last = refl
may_stand (a ∷ done) last = rw (nonzero (length (done ++ last ∷ []))) refl

-- no list, or a last one, may end
may_end : (names lists : List (List ℕ)) (at : ℕ) (q : Place) → segments_by names lists at (codes "end" ∷ []) q ≡ Ok (end_read lists q)
may_end names [] at q = refl
may_end names (a ∷ lists) at q = rw (nonzero (length lists)) refl

module _ (names : List (List ℕ)) (apart : AreDistinct names) (spelled : All IsJobName names) where
  -- jobs of the last list, and the lists after it
  pub lists_again : (lists : List (List ℕ)) (jobs : List ℕ) (done : List (List ℕ)) (last : List ℕ) (at : ℕ) (rest : List ℕ) → All (AreJobs names) lists → AreJobs names jobs
      → length (segment_lines names (done ++ last ∷ [])) + length (job_lines names jobs ++ segment_lines names lists) ≤ MOST_LINES
      → GetsLines (segments_step names) None (done ++ last ∷ []) (record { at = at; rest = (lines_text (job_lines names jobs ++ segment_lines names lists) ++ end_text) ++ rest })
      (done ++ (last ++ jobs) ∷ lists) rest
  unfolding segment_added segments_step
  lists_again [] [] done last at rest inside here room =
      let g = end_on (segments_step names) (segments_by names) (λ d p. refl) (done ++ last ∷ []) at rest (λ q. may_end names (done ++ last ∷ []) at q) in
      subst (λ (js : List ℕ). GetsLines (segments_step names) None (done ++ last ∷ []) (record { at = at; rest = end_text ++ rest }) (done ++ js ∷ []) rest) (sym (append-nil last)) g
  lists_again (jobs ∷ lists) [] done last at rest inside here room =
      let now = done ++ last ∷ [] in
      let more = job_lines names jobs ++ segment_lines names lists in
      let next = begin_lines names now in
      line_on (segments_step names) (segments_by names) (λ d p. refl)
      now (now ++ [] ∷ []) (done ++ (last ++ []) ∷ jobs ∷ lists) (codes "segment") [] more at rest (record { no_space = refl; no_line_feed = refl }, tt)
      (λ q. may_again (length (segment_lines names now)) true (segment_added names (codes "segment")) now (now ++ [] ∷ []) at (codes "segment" ∷ []) q refl (omega (arith, room)) refl)
      (λ at.
      let all : now ++ jobs ∷ lists ≡ done ++ (last ++ []) ∷ jobs ∷ lists = append_assoc done (last ∷ []) (jobs ∷ lists) ∙ ap (λ (js : List ℕ). done ++ js ∷ jobs ∷ lists) (sym (append-nil last)) in
      subst (λ (ls : List (List ℕ)). GetsLines (segments_step names) None (now ++ [] ∷ []) (record { at = at; rest = (lines_text more ++ end_text) ++ rest }) ls rest) all
      (lists_again lists jobs now [] at rest (All-tail (AreJobs names) jobs lists inside) (All-head (AreJobs names) jobs lists inside)
      (omega (arith, ap length next, length-append (segment_lines names now) ((codes "segment" ∷ []) ∷ []), room))))
  lists_again lists (j ∷ jobs) done last at rest inside here room =
      let now = done ++ last ∷ [] in
      let more = job_lines names jobs ++ segment_lines names lists in
      let h = All-head (λ k. k < length names) j jobs here in
      let next = push_lines names done last j in
      let last_is = with_job_last done last j in
      line_on (segments_step names) (segments_by names) (λ d p. refl)
      now (with_job now j) (done ++ (last ++ j ∷ jobs) ∷ lists) (codes "job") (name_at names j ∷ []) more at rest (job_fields names apart spelled j h)
      (λ q. may_again (length (segment_lines names now)) (is_segment_word now (codes "job")) (segment_added names (codes "job")) now
      (with_job now j) at (job_line names j) q (may_stand done last) (omega (arith, room)) (bind_again _ _ _ _ (job_again names apart spelled at j h) refl))
      (λ at.
      let all : done ++ ((last ++ j ∷ []) ++ jobs) ∷ lists ≡ done ++ (last ++ j ∷ jobs) ∷ lists = ap (λ (js : List ℕ). done ++ js ∷ lists) (append_assoc last (j ∷ []) jobs) in
      subst (λ (ls : List (List ℕ)). GetsLines (segments_step names) None ls (record { at = at; rest = (lines_text more ++ end_text) ++ rest }) (done ++ (last ++ j ∷ jobs) ∷ lists) rest)
      (sym last_is)
      (subst (λ (ls : List (List ℕ)). GetsLines (segments_step names) None (done ++ (last ++ j ∷ []) ∷ []) (record { at = at; rest = (lines_text more ++ end_text) ++ rest }) ls rest) all
      (lists_again lists jobs done (last ++ j ∷ []) at rest inside (All-tail (λ k. k < length names) j jobs here)
      (subst (λ (ls : List (List ℕ)). length (segment_lines names ls) + length more ≤ MOST_LINES)
      last_is (omega (arith, ap length next, length-append (segment_lines names now) (job_line names j ∷ []), room))))))

  pub segments_again : (lists : List (List ℕ)) (at : ℕ) (rest : List ℕ) → All (AreJobs names) lists → length (segment_lines names lists) ≤ MOST_LINES
      → Gets (segments_from names (record { at = at; rest = (lines_text (segment_lines names lists) ++ end_text) ++ rest })) lists rest
  unfolding segment_added segments_step
  segments_again [] at rest inside room =
      let l = last_on (segments_step names) (segments_by names) (λ d p. refl) [] at rest (λ q. refl) in
      (l.0, bind_again _ (goes_on None (lines_from (segments_step names))) _ _ l.1 refl)
  segments_again (jobs ∷ lists) at rest inside room =
      let more = job_lines names jobs ++ segment_lines names lists in
      let l = step_on (segments_step names) (segments_by names) (λ d p. refl) [] ([] ∷ []) (codes "segment") [] more at rest (record { no_space = refl; no_line_feed = refl }, tt)
      (λ q. may_again 0 true (segment_added names (codes "segment")) [] ([] ∷ []) at (codes "segment" ∷ []) q refl (omega arith) refl) in
      let g = lists_again lists jobs [] [] l.0 rest (All-tail (AreJobs names) jobs lists inside) (All-head (AreJobs names) jobs lists inside) (omega (arith, room)) _ (omega arith) in
      (g.0, bind_again _ (goes_on None (lines_from (segments_step names))) _ _ l.1 g.1)
