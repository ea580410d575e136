-- Lists of jobs: a list that begins, and a job that comes to the last one.
use Rattle.std.proofs.Common.{◌≡◌, ℕ, ◌+◌, List, [], ◌∷◌, ◌++◌, length, None, Result, Ok, refl, sym, ap, ◌∙◌, append_assoc, length-append, codes}
use Rattle.std.proofs.lemmas.List.{map-append}
use Rattle.msp_class.proofs.Lists.{flat_map_push}
use Rattle.msp_grammar.specs.declared.lines.fault.FileFault.{FileFault}
use Rattle.msp_grammar.specs.declared.lines.fault.FileFault.TheVariants.{Memory}
use Rattle.msp_grammar.specs.lines.Answers.{Fails}
use Rattle.msp_grammar.specs.lines.Reading.{◌>>=◌, Place, LineRead, more_read, end_read, goes_on, lines_from}
use Rattle.msp_cert_text.specs.CertificateText.{job_line, job_lines, segment_lines}
use Rattle.msp_cert_text.specs.Reading.{with_job, segments_step, segments_from}

pub with_job_last : (done : List (List ℕ)) (last : List ℕ) (j : ℕ) → with_job (done ++ last ∷ []) j ≡ done ++ (last ++ j ∷ []) ∷ []
with_job_last [] last j = refl
with_job_last (a ∷ []) last j = refl
with_job_last (a ∷ b ∷ done) last j = ap (λ lists. a ∷ lists) (with_job_last (b ∷ done) last j)

-- the lines of lists and of one more
begun_lines : (names lists : List (List ℕ)) (jobs : List ℕ) → segment_lines names (lists ++ jobs ∷ []) ≡ segment_lines names lists ++ (codes "segment" ∷ []) ∷ job_lines names jobs
begun_lines names lists jobs =
    flat_map_push (λ (jobs : List ℕ). (codes "segment" ∷ []) ∷ job_lines names jobs) lists jobs

pub begin_lines : (names lists : List (List ℕ)) → segment_lines names (lists ++ [] ∷ []) ≡ segment_lines names lists ++ (codes "segment" ∷ []) ∷ []
begin_lines names lists = begun_lines names lists []

pub job_lines-push : (names : List (List ℕ)) (jobs : List ℕ) (j : ℕ) → job_lines names (jobs ++ j ∷ []) ≡ job_lines names jobs ++ job_line names j ∷ []
job_lines-push names jobs j = map-append (job_line names) jobs (j ∷ [])

pub push_lines : (names done : List (List ℕ)) (last : List ℕ) (j : ℕ) → segment_lines names (with_job (done ++ last ∷ []) j) ≡ segment_lines names (done ++ last ∷ []) ++ job_line names j ∷ []
push_lines names done last j =
    ap (segment_lines names) (with_job_last done last j) ∙ begun_lines names done (last ++ j ∷ [])
    ∙ ap (λ lines. segment_lines names done ++ (codes "segment" ∷ []) ∷ lines) (job_lines-push names last j)
    ∙ sym (append_assoc (segment_lines names done) ((codes "segment" ∷ []) ∷ job_lines names last) (job_line names j ∷ []))
    ∙ ap (λ lines. lines ++ job_line names j ∷ []) (sym (begun_lines names done last))

pub begin_count : (names lists more : List (List ℕ)) → more ≡ lists ++ [] ∷ [] → length (segment_lines names more) ≡ length (segment_lines names lists) + 1
begin_count names lists more e = ap (λ l. length (segment_lines names l)) e ∙ ap length (begin_lines names lists) ∙ length-append (segment_lines names lists) ((codes "segment" ∷ []) ∷ [])

pub push_count : (names done more : List (List ℕ)) (last : List ℕ) (j : ℕ)
    → more ≡ with_job (done ++ last ∷ []) j → length (segment_lines names more) ≡ length (segment_lines names (done ++ last ∷ [])) + 1
push_count names done more last j e =
    ap (λ l. length (segment_lines names l)) e ∙ ap length (push_lines names done last j) ∙ length-append (segment_lines names (done ++ last ∷ [])) (job_line names j ∷ [])

pub ruleset count_rules = (begin_count, push_count)

-- the first line
first_is : (names : List (List ℕ)) (p : Place) (line : Result (LineRead (List (List ℕ))) FileFault) → segments_step names [] p ≡ line
    → segments_from names p ≡ (line >>= goes_on None (lines_from (segments_step names)))
first_is names p line h = ap (λ s. s >>= goes_on None (lines_from (segments_step names))) h

pub first_then : (names lists : List (List ℕ)) (p q r : Place) → segments_step names [] p ≡ Ok (more_read ([] ∷ []) q)
    → lines_from (segments_step names) ([] ∷ []) q ≡ Ok (lists, r) → segments_from names p ≡ Ok (lists, r)
first_then names lists p q r step h = first_is names p _ step ∙ h

pub first_breaks : (names : List (List ℕ)) (p q : Place) (e : FileFault) → segments_step names [] p ≡ Ok (more_read ([] ∷ []) q)
    → Fails e (lines_from (segments_step names) ([] ∷ []) q) → Fails e (segments_from names p)
first_breaks names p q Memory step h = tt
first_breaks names p q e step h = first_is names p _ step ∙ h

pub first_ends : (names : List (List ℕ)) (p q : Place) → segments_step names [] p ≡ Ok (end_read [] q) → segments_from names p ≡ Ok ([], q)
first_ends names p q step = first_is names p _ step

pub first_fails : (names : List (List ℕ)) (p : Place) (e : FileFault) → Fails e (segments_step names [] p) → Fails e (segments_from names p)
first_fails names p Memory h = tt
first_fails names p e h = first_is names p _ h

pub ruleset first_rules = (first_then, first_breaks, first_ends, first_fails)
