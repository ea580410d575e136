-- A certificate that is read for an instance of its class keeps the limits within which certificates are judged.
use Rattle.std.proofs.Common.{◌≡◌, ℕ, ◌+◌, ◌*◌, ◌≤◌, List, [], ◌∷◌, length, ℤ, pos, negsuc, ◌≤ℤ◌, unsigned_abs, refl, codes, decimal, sum_by, arith}
use Rattle.std.proofs.lemmas.List.{length-map, length-append}
use Rattle.std.proofs.lemmas.List.Sums.{sum_by-cons}
use Rattle.std.proofs.lemmas.Nat.{mul-le}
use Rattle.std.proofs.lemmas.Int.{ints}
use Rattle.msp_class.specs.declared.sizes.TheConstants.{MOST_JOBS, MOST_MACHINES}
use Rattle.msp_instance.specs.declared.Instance.{Instance}
use Rattle.msp_instance.specs.Conditions.{InClass}
use Rattle.msp_pieces.specs.declared.Frac.{Frac}
use Rattle.msp_pieces.specs.Fraction.{IsComparable}
use Rattle.msp_cert.specs.declared.limits.TheConstants.{MOST_ENTRIES}
use Rattle.msp_cert.specs.declared.Proof.{Proof}
use Rattle.msp_cert.specs.declared.Proof.TheVariants.{Group, Levels, Segments, Block, Prices}
use Rattle.msp_cert.specs.declared.Certificate.{Certificate}
use Rattle.msp_cert.specs.Certificates.{KeepsLimits, HasSmallNumbers, entries}
use Rattle.msp_grammar.specs.declared.limits.TheConstants.{GREATEST_DENOMINATOR}
use Rattle.msp_cert_text.specs.declared.kinds.TheConstants.{GREATEST_BOUND, MOST_LINES}
use Rattle.msp_cert_text.specs.CertificateText.{job_line, job_lines, numbered_lines, segment_lines, kind_lines, IsStatedBound, IsStatedProof, IsCertificateText}
use Rattle.msp_grammar.proofs.reading.FieldLaws.{size_within}
use Rattle.msp_cert_text.proofs.KindTexts.{numbered_length}

-- lists have a line each, and a line for each of their jobs
segments_counted : (names lists : List (List ℕ)) → length (segment_lines names lists) ≡ length lists + sum_by length lists
segments_counted names [] = refl
segments_counted names (jobs ∷ lists) =
    omega (arith, sum_by-cons length jobs lists, segments_counted names lists, length-append (job_lines names jobs) (segment_lines names lists), length-map jobs (job_line names))

-- a proof of so many lines has few entries
few : (names : List (List ℕ)) (machines : ℕ) (p : Proof)
    → length names ≤ MOST_JOBS → machines ≤ MOST_MACHINES → IsStatedProof names machines p → length (kind_lines names p) ≤ MOST_LINES → entries p ≤ MOST_ENTRIES
few names machines (Group jobs) jobs_few machines_few stated lines = omega (arith, length-map jobs (job_line names), lines)
few names machines (Levels level tail) jobs_few machines_few stated lines = omega (arith, stated.0, jobs_few)
few names machines (Segments lists) jobs_few machines_few stated lines = omega (arith, segments_counted names lists, lines)
few names machines (Block head jobs) jobs_few machines_few stated lines =
    omega (
      arith,
      length-append (numbered_lines (codes "head") decimal names head)
          (job_lines names jobs),
      numbered_length (codes "head") decimal names head stated.0,
      length-map jobs (job_line names),
      lines,
    )
few names machines (Prices row column) jobs_few machines_few stated lines =
    let all : machines * length names ≤ MOST_MACHINES * MOST_JOBS = mul-le machines (length names) MOST_MACHINES MOST_JOBS machines_few jobs_few in
    omega (arith, stated.0, stated.2, all, jobs_few)
few names machines _ jobs_few machines_few stated lines = omega arith

small : (names : List (List ℕ)) (machines : ℕ) (p : Proof) → IsStatedProof names machines p → HasSmallNumbers p
small names machines (Block head jobs) stated = stated.1
small names machines (Prices row column) stated = (stated.1, λ k d l. (stated.3 k d l).0)
small names machines _ stated = tt

pub keeps_limits : (bytes : List ℕ) (names : List (List ℕ)) (i : Instance) (c : Certificate)
    → InClass i → length names ≡ length i.jobs → IsCertificateText bytes names i.machines c → KeepsLimits c.proof
keeps_limits bytes names i c h named text = record {
  few = few names i.machines c.proof (omega (arith, named, h.conditions.few)) h.conditions.machines.1 text.stated.numbers text.stated.few;
  small = small names i.machines c.proof text.stated.numbers;
}

counted_size : (greatest : ℕ) (x : ℤ) → pos 1 ≤ℤ x → x ≤ℤ pos greatest → unsigned_abs x ≤ greatest
counted_size greatest (pos n) some most = omega (arith, ints, most)
counted_size greatest (negsuc n) some most = omega (arith, ints, some)

pub bound_compares : (bytes : List ℕ) (names : List (List ℕ)) (machines : ℕ) (c : Certificate) → IsCertificateText bytes names machines c → IsComparable c.bound
bound_compares bytes names machines c text = compares c.bound text.stated.bound
  where
    compares : (x : Frac) → IsStatedBound x → IsComparable x
    compares x h = record {
      num = omega (arith, size_within GREATEST_BOUND x.num h.num);
      den = omega (arith, counted_size GREATEST_DENOMINATOR x.den h.den.0 h.den.1);
    }

pub ruleset limit_rules = (keeps_limits, bound_compares)
