-- The text of a certificate. Each number has one spelling, and positions of price 0 have no line, so a certificate has one text for each
-- spelling of its bound.
use Rattle.std.specs.Prelude.{◌≡◌, ℕ, suc, ◌+◌, ◌*◌, ◌/◌, ◌%◌, ◌<◌, ◌≤◌, not, List, [], ◌∷◌, ◌++◌, length, map, ℤ, pos, ◌≤ℤ◌, All, codes, decimal}
use Rattle.std.specs.Fmt.{signed_decimal}
use Rattle.std.specs.List.{flat_map}
use Rattle.std.specs.Ordering.{int_eq}
use Rattle.msp_instance.specs.Conditions.{LiesWithin}
use Rattle.msp_pieces.specs.declared.Frac.{Frac}
use Rattle.msp_cert.specs.declared.Proof.{Proof}
use Rattle.msp_cert.specs.declared.Proof.TheVariants as proof
use Rattle.msp_cert.specs.declared.Certificate.{Certificate}
use Rattle.msp_grammar.specs.ScheduleText.{name_at, fraction_text, IsFractionText}
use Rattle.msp_grammar.specs.InstanceText.{where_wanted, line_text}
use Rattle.msp_grammar.specs.declared.limits.TheConstants.{GREATEST_DENOMINATOR}
use Rattle.msp_cert_text.specs.declared.kinds.Kind.{Kind}
use Rattle.msp_cert_text.specs.declared.kinds.Kind.TheVariants as kind
use Rattle.msp_cert.specs.declared.limits.TheConstants.{GREATEST_HEAD, GREATEST_PRICE}
use Rattle.msp_cert_text.specs.declared.kinds.TheConstants.{GREATEST_BOUND, GREATEST_LEVEL, MOST_LINES}

-- The kind of a proof, and the word for it.
abbrev pub kind_of : Proof → Kind
kind_of (proof.Group jobs) = kind.Group
kind_of (proof.Machine machine) = kind.Machine
kind_of (proof.Line job) = kind.Line
kind_of (proof.Levels level tail) = kind.Levels
kind_of (proof.Segments lists) = kind.Segments
kind_of (proof.Block head jobs) = kind.Block
kind_of (proof.Prices row column) = kind.Prices

abbrev pub kind_word : Kind → List ℕ
kind_word kind.Group = codes "group"
kind_word kind.Machine = codes "machine"
kind_word kind.Line = codes "line"
kind_word kind.Levels = codes "levels"
kind_word kind.Segments = codes "segments"
kind_word kind.Block = codes "block"
kind_word kind.Prices = codes "prices"

-- A line is a list of fields. The line of a job.
abbrev pub job_line : List (List ℕ) → ℕ → List (List ℕ)
job_line names j = codes "job" ∷ name_at names j ∷ []

abbrev pub job_lines : List (List ℕ) → List ℕ → List (List (List ℕ))
job_lines names jobs = map (job_line names) jobs

-- A line for each job in order: a word, the job's name and its number.
abbrev pub numbered_lines : {A : Type 0} → List ℕ → (A → List ℕ) → List (List ℕ) → List A → List (List (List ℕ))
numbered_lines word spell (name ∷ names) (number ∷ numbers) = (word ∷ name ∷ spell number ∷ []) ∷ numbered_lines word spell names numbers
numbered_lines word spell _ _ = []

-- A line before the jobs of each list.
abbrev pub segment_lines : List (List ℕ) → List (List ℕ) → List (List (List ℕ))
segment_lines names lists = flat_map (λ jobs. (codes "segment" ∷ []) ∷ job_lines names jobs) lists

-- The line of a position by its number among those of all machines, each of which has as many as there are jobs: the machine and the
-- position on it, both from 1, and its price.
abbrev pub column_line : ℕ → ℕ → ℤ → List (List ℕ)
column_line jobs at price = codes "column" ∷ decimal (at / jobs + 1) ∷ decimal (at % jobs + 1) ∷ signed_decimal price ∷ []

-- The lines of the positions from one on, those whose price is not 0.
abbrev pub column_lines : ℕ → ℕ → List ℤ → List (List (List ℕ))
column_lines jobs at [] = []
column_lines jobs at (price ∷ prices) = where_wanted (not (int_eq price (pos 0))) (column_line jobs at price ∷ []) ++ column_lines jobs (suc at) prices

-- The lines of a proof, after the one with its kind.
abbrev pub kind_lines : List (List ℕ) → Proof → List (List (List ℕ))
kind_lines names (proof.Group jobs) = job_lines names jobs
kind_lines names (proof.Machine machine) = (codes "machine" ∷ decimal (machine + 1) ∷ []) ∷ []
kind_lines names (proof.Line job) = job_line names job ∷ []
kind_lines names (proof.Levels level tail) = (codes "tail" ∷ decimal tail ∷ []) ∷ numbered_lines (codes "level") decimal names level
kind_lines names (proof.Segments lists) = segment_lines names lists
kind_lines names (proof.Block head jobs) = numbered_lines (codes "head") decimal names head ++ job_lines names jobs
kind_lines names (proof.Prices row column) = numbered_lines (codes "row") signed_decimal names row ++ column_lines (length names) 0 column

abbrev pub lines_text : List (List (List ℕ)) → List ℕ
lines_text lines = flat_map line_text lines

-- The text of a certificate with this proof, with a spelling of its bound.
unfoldable pub certificate_text : List ℕ → List (List ℕ) → Proof → List ℕ
certificate_text spelling names p =
    line_text (codes "certificate" ∷ [])
    ++ line_text (codes "bound" ∷ spelling ∷ [])
    ++ line_text (codes "kind" ∷ kind_word (kind_of p) ∷ [])
    ++ lines_text (kind_lines names p)
    ++ line_text (codes "end" ∷ [])

-- The text of a certificate as it is printed.
abbrev pub printed_certificate : List (List ℕ) → Certificate → List ℕ
printed_certificate names c = certificate_text (fraction_text c.bound) names c.proof

-- A bound within the limits of texts.
pub record IsStatedBound (x : Frac) : Type 0 where
  pub num : LiesWithin GREATEST_BOUND x.num
  pub den : (pos 1 ≤ℤ x.den) × (x.den ≤ℤ pos GREATEST_DENOMINATOR)

-- The numbers are those of jobs.
abbrev pub AreJobs : List (List ℕ) → List ℕ → Type 0
AreJobs names jobs = All (λ j. j < length names) jobs

-- The price of a position lies within the limits of texts, and is not above 0.
abbrev pub IsColumnPrice : ℤ → Type 0
IsColumnPrice x = LiesWithin GREATEST_PRICE x × (x ≤ℤ pos 0)

-- The numbers of a proof are those of jobs and machines or within the limits of texts. There is one level, head or price for each job,
-- and a price for each position on each machine.
abbrev pub IsStatedProof : List (List ℕ) → ℕ → Proof → Type 0
IsStatedProof names machines (proof.Group jobs) = AreJobs names jobs
IsStatedProof names machines (proof.Machine machine) = machine < machines
IsStatedProof names machines (proof.Line job) = job < length names
IsStatedProof names machines (proof.Levels level tail) = (length level ≡ length names) × All (λ l. l ≤ GREATEST_LEVEL) level × (tail ≤ GREATEST_LEVEL)
IsStatedProof names machines (proof.Segments lists) = All (AreJobs names) lists
IsStatedProof names machines (proof.Block head jobs) = (length head ≡ length names) × All (λ h. h ≤ GREATEST_HEAD) head × AreJobs names jobs
IsStatedProof names machines (proof.Prices row column) = (length row ≡ length names) × All (LiesWithin GREATEST_PRICE) row × (length column ≡ machines * length names) × All IsColumnPrice column

-- A certificate for an instance with these names of jobs and so many machines can be written as a text.
pub record IsStatedCertificate (names : List (List ℕ)) (machines : ℕ) (c : Certificate) : Type 0 where
  pub bound : IsStatedBound c.bound
  pub few : length (kind_lines names c.proof) ≤ MOST_LINES
  pub numbers : IsStatedProof names machines c.proof

-- The bytes are a text of the certificate, which is within the limits of texts. The bound is written as it is, in lowest terms or not.
pub record IsCertificateText (b : List ℕ) (names : List (List ℕ)) (machines : ℕ) (c : Certificate) : Type 0 where
  pub spelling : List ℕ
  pub spells : IsFractionText c.bound spelling
  pub text : b ≡ certificate_text spelling names c.proof
  pub stated : IsStatedCertificate names machines c
