-- A certificate of a best cost has a text.
use Rattle.std.proofs.Common.{◌≡◌, ℕ, suc, ◌+◌, ◌*◌, ◌<◌, ◌≤◌, Bool, true, false, not, List, [], ◌∷◌, ◌++◌, length, sum_by, All, ℤ, pos, refl, sym, ap, subst, ◌∙◌, arith, codes, decimal}
use Rattle.std.specs.Fmt.{signed_decimal}
use Rattle.std.specs.Ordering.{int_eq}
use Rattle.std.proofs.lemmas.List.{length-append, length-map}
use Rattle.std.proofs.lemmas.List.Sums.{sum_by-cons}
use Rattle.msp_instance.specs.declared.Instance.{Instance}
use Rattle.msp_pieces.specs.Fraction.{IsLowest}
use Rattle.msp_cert.specs.declared.limits.TheConstants.{MOST_ENTRIES}
use Rattle.msp_cert.specs.declared.Proof.{Proof}
use Rattle.msp_cert.specs.declared.Proof.TheVariants.{Group, Machine, Line, Levels, Segments, Block, Prices}
use Rattle.msp_cert.specs.declared.Certified.{Certified}
use Rattle.msp_cert.specs.Certificates.{HoldsFor, entries, HasSmallNumbers}
use Rattle.msp_cert.proofs.PriceFacts.{priced_low}
use Rattle.msp_grammar.specs.InstanceText.{where_wanted}
use Rattle.msp_grammar.specs.ScheduleText.{name_at}
use Rattle.msp_cert_text.specs.CertificateText.{job_lines, segment_lines, numbered_lines, column_line, column_lines, kind_lines, AreJobs, IsStatedProof, IsStatedCertificate}
use Rattle.msp_cert_text.proofs.KindTexts.{numbered_length}
use Rattle.msp_dispatch.specs.Certify.{HasLowLevels, IsCertified}

jobs_count : (names : List (List ℕ)) (jobs : List ℕ) → length (job_lines names jobs) ≡ length jobs
jobs_count names jobs = length-map jobs (λ j. codes "job" ∷ name_at names j ∷ [])

segments_count : (names : List (List ℕ)) (lists : List (List ℕ)) → length (segment_lines names lists) ≡ length lists + sum_by length lists
segments_count names [] = refl
segments_count names (jobs ∷ lists) =
    omega (arith, length-append (job_lines names jobs) (segment_lines names lists), jobs_count names jobs, segments_count names lists, sum_by-cons length jobs lists)

column_lines_few : (jobs at : ℕ) (column : List ℤ) → length (column_lines jobs at column) ≤ length column
column_lines_few jobs at [] = omega arith
column_lines_few jobs at (price ∷ prices) = along (not (int_eq price (pos 0))) (column_line jobs at price) (column_lines jobs (suc at) prices) (length prices) (column_lines_few jobs (suc at) prices)
  where
    along : {A : Type 0} (wanted : Bool) (line : A) (later : List A) (n : ℕ) → length later ≤ n → length (where_wanted wanted (line ∷ []) ++ later) ≤ suc n
    along true line later n h = omega (arith, h)
    along false line later n h = omega (arith, h)

lines_few : (names : List (List ℕ)) (i : Instance) (p : Proof) → length names ≡ length i.jobs → HoldsFor i p → entries p ≤ MOST_ENTRIES → length (kind_lines names p) ≤ MOST_ENTRIES
lines_few names i (Group jobs) named h few = omega (arith, few, jobs_count names jobs)
lines_few names i (Machine machine) named h few = omega arith
lines_few names i (Line job) named h few = omega arith
lines_few names i (Levels level tail) named h few = omega (arith, few, numbered_length (codes "level") decimal names level (h.each ∙ sym named))
lines_few names i (Segments lists) named h few = omega (arith, few, segments_count names lists)
lines_few names i (Block head jobs) named h few =
    omega (
      arith,
      few,
      length-append (numbered_lines (codes "head") decimal names head)
          (job_lines names jobs),
      numbered_length (codes "head") decimal names head (h.block.each ∙ sym named),
      jobs_count names jobs,
    )
lines_few names i (Prices row column) named h few =
    omega (
      arith,
      few,
      length-append (numbered_lines (codes "row") signed_decimal names row) (column_lines (length names) 0 column),
      numbered_length (codes "row") signed_decimal names row (h.rows ∙ sym named),
      column_lines_few (length names) 0 column,
    )

are_jobs : (names : List (List ℕ)) (n : ℕ) (jobs : List ℕ) → length names ≡ n → All (λ j. j < n) jobs → AreJobs names jobs
are_jobs names n jobs named h = subst (λ k. All (λ j. j < k) jobs) (sym named) h

numbers_stated : (names : List (List ℕ)) (i : Instance) (p : Proof) → length names ≡ length i.jobs → HoldsFor i p → HasSmallNumbers p → HasLowLevels p → IsStatedProof names i.machines p
numbers_stated names i (Group jobs) named h small low = are_jobs names (length i.jobs) jobs named h.inside
numbers_stated names i (Machine machine) named h small low = h.1
numbers_stated names i (Line job) named h small low = omega (arith, named, h.1)
numbers_stated names i (Levels level tail) named h small low = (h.each ∙ sym named, low.0, low.1)
numbers_stated names i (Segments lists) named h small low = λ k d l. are_jobs names (length i.jobs) _ named (h.segments.inside k d l)
numbers_stated names i (Block head jobs) named h small low = (h.block.each ∙ sym named, small, are_jobs names (length i.jobs) jobs named h.block.inside)
numbers_stated names i (Prices row column) named h small low =
    (h.rows ∙ sym named, small.0, h.columns ∙ ap (λ n. n * i.machines) (sym named) ∙ turned (length names) i.machines, λ k d l. (small.1 k d l, priced_low i row column h k d l))
  where
    turned : (a b : ℕ) → a * b ≡ b * a
    turned a b = omega arith

pub certificate_stated : (names : List (List ℕ)) (i : Instance) (c : Certified) → length names ≡ length i.jobs → IsCertified i c → IsStatedCertificate names i.machines c.certificate
certificate_stated names i c named h = record {
  bound = record { num = h.limits.num; den = h.limits.den };
  few = lines_few names i c.certificate.proof named h.value.holds h.limits.proof.few;
  numbers = numbers_stated names i c.certificate.proof named h.value.holds h.limits.proof.small h.limits.levels;
}

pub lowest_bound : (i : Instance) (c : Certified) → IsCertified i c → IsLowest c.certificate.bound
lowest_bound i c h = subst IsLowest (sym h.bound) h.solution.lowest
