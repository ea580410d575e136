-- The faults of certificate texts, and that their reading comes to an end.
use Rattle.std.proofs.Common.{◌≡◌, ◌⊎◌, inl, inr, ℕ, ◌+◌, List, [], ◌∷◌, length, None, Result, Ok, Err, ℤ, bytes_eq, codes, subst, sym}
use Rattle.msp_grammar.specs.declared.lines.fault.FileFault.{FileFault}
use Rattle.msp_grammar.specs.declared.lines.fault.FileFault.TheVariants.{Class as ClassBroken, Cycle, Memory, After, Head, Missing, Cut, Line, Count, Key, Name, Number, Limit}
use Rattle.msp_grammar.specs.declared.lines.fault.FileFault.TheVariants.{Again, ArcAgain, Unknown}
use Rattle.msp_grammar.specs.declared.lines.fault.What.TheVariants as what
use Rattle.msp_cert_text.specs.declared.kinds.Kind.{Kind}
use Rattle.msp_cert_text.specs.declared.kinds.Kind.TheVariants as kind
use Rattle.msp_cert.specs.declared.limits.TheConstants.{GREATEST_HEAD, GREATEST_PRICE}
use Rattle.msp_cert_text.specs.declared.kinds.TheConstants.{GREATEST_BOUND, GREATEST_LEVEL}
use Rattle.msp_cert_text.specs.Reading.{kind_in, kind_at, machine_line_at, job_line_of, tail_at, named_field_at, named_line_at, numbers_at, level_at, head_at, price_at, job_in}
use Rattle.msp_cert_text.specs.Reading.{job_added, jobs_step, segment_added, is_segment_word, segments_step, position_at, column_price_at, column_added, columns_step, group_proof, machine_proof}
use Rattle.msp_cert_text.specs.Reading.{line_proof, levels_proof, segments_proof, block_proof, prices_proof, proof_at, evidence_at, certified_at, ReadsCertificate}
use Rattle.msp_cert_text.specs.Answers.{IsCertificateFault}
use Rattle.msp_grammar.specs.lines.Reading.{◌>>=◌, Place, line_at, fields_of, first_of, word_line_at, LineRead, lines_from}
use Rattle.msp_grammar.specs.lines.Costs.{cost_line_at}
use Rattle.msp_grammar.proofs.reading.LineFaults.{IsPlainFault, InBy, IsPlain, fine, bad, chain, given, or_fault, either, line_plain, worded_plain, word_plain, field_plain}
use Rattle.msp_grammar.proofs.reading.LineFaults.{natural_plain, integer_plain, ordinal_plain, named_plain, known_plain, end_plain, cost_plain, goes_on_in, lines_each, whole_in}
use Rattle.msp_grammar.proofs.reading.LineFaults.{whole_remembers}
use Rattle.msp_cert_text.proofs.KindLaws.{kind_in_by}

-- A fault that a line of a certificate text can have.
abbrev IsKindFault : FileFault → Type 0
IsKindFault (Key at) = Unit {0}
IsKindFault (Again at) = Unit {0}
IsKindFault e = IsPlainFault e

plain_kind : (e : FileFault) → IsPlainFault e → IsKindFault e
plain_kind (Key at) h = tt
plain_kind (Again at) h = tt
plain_kind e h = h

abbrev InKind : {A : Type 0} → Result A FileFault → Type 0
InKind r = InBy IsKindFault r

widen : {A : Type 0} (r : Result A FileFault) → IsPlain r → InKind r
widen r h = record { fault = λ e k. plain_kind e (h.fault e k) }

-- ---- single lines

kind_line : (p : Place) → InKind (kind_at p)
unfolding kind_at
kind_line p = chain _ _ (widen _ (field_plain _ p)) (λ l. chain _ _ (or_fault (kind_in l.0) (Key p.at) tt) (λ k. fine _))

machine_line : (machines : ℕ) (p : Place) → InKind (machine_line_at machines p)
unfolding machine_line_at
machine_line machines p = chain _ _ (widen _ (field_plain _ p)) (λ l. chain _ _ (widen _ (ordinal_plain p.at what.Machines machines l.0)) (λ m. fine _))

job_line : (names : List (List ℕ)) (p : Place) → InKind (job_line_of names p)
unfolding job_line_of
job_line names p = chain _ _ (widen _ (field_plain _ p)) (λ l. chain _ _ (widen _ (known_plain p.at names l.0)) (λ j. fine _))

tail_line : (p : Place) → InKind (tail_at p)
unfolding tail_at
tail_line p = chain _ _ (widen _ (field_plain _ p)) (λ l. chain _ _ (widen _ (natural_plain p.at what.Level 0 GREATEST_LEVEL l.0)) (λ t. fine _))

named_fields : (before : ℕ) (name : List ℕ) (at : ℕ) (fields : List (List ℕ)) → InKind (named_field_at before name at fields)
unfolding named_field_at
named_fields before name at fields =
    given _ (Limit at what.Lines) _ tt (
    given _ (Count at) _ tt (chain _ _ (widen _ (named_plain at (first_of fields))) (λ given_name. given _ (Unknown at) _ tt (fine _))))

named_line : (word : List ℕ) (before : ℕ) (name : List ℕ) (p : Place) → InKind (named_line_at word before name p)
unfolding named_line_at
named_line word before name p = chain _ _ (widen _ (worded_plain word p)) (λ l. chain _ _ (named_fields before name p.at l.0) (λ w. fine _))

numbers : {A : Type 0} (read : ℕ → List ℕ → Result A FileFault) (word : List ℕ) (before : ℕ) (xs : List A) (names : List (List ℕ)) (p : Place)
    → ((at : ℕ) (w : List ℕ) → InKind (read at w)) → InKind (numbers_at read word before xs names p)
unfolding numbers_at
numbers read word before xs [] p each = fine _
numbers read word before xs (name ∷ names) p each =
    chain _ _ (named_line word _ name p) (λ l. chain _ _ (each p.at l.0) (λ x. numbers read word before _ names l.1 each))

level : (at : ℕ) (w : List ℕ) → InKind (level_at at w)
level at w = widen _ (natural_plain at what.Level 0 GREATEST_LEVEL w)

head : (at : ℕ) (w : List ℕ) → InKind (head_at at w)
head at w = widen _ (natural_plain at what.Head 0 GREATEST_HEAD w)

price : (at : ℕ) (w : List ℕ) → InKind (price_at at w)
price at w = widen _ (integer_plain at what.Price GREATEST_PRICE w)

-- ---- lines up to the end

one_job : (names : List (List ℕ)) (at : ℕ) (fields : List (List ℕ)) → InKind (job_in names at fields)
unfolding job_in
one_job names at fields = given _ (Count at) _ tt (widen _ (known_plain at names (first_of fields)))

after_job : (names : List (List ℕ)) (before : ℕ) (jobs : List ℕ) (p : Place) → InKind (jobs_step names before jobs p)
unfolding jobs_step job_added
after_job names before jobs p =
    chain (line_at p) _ (widen _ (line_plain p)) (λ l.
    kind_in_by _ (bytes_eq (first_of (fields_of l.0)) (codes "job"))
    (job_added names) jobs p.at (fields_of l.0) l.1 tt (chain _ _ (one_job names p.at _) (λ j. fine _)) (widen _ (end_plain p.at jobs (fields_of l.0) l.1)))

segment_line : (names : List (List ℕ)) (word : List ℕ) (at : ℕ) (lists fields : List (List ℕ)) → InKind (segment_added names word at lists fields)
unfolding segment_added
segment_line names word at lists fields = either _ _ _ (given _ (Count at) _ tt (fine _)) (chain _ _ (one_job names at fields) (λ j. fine _))

after_segment : (names lists : List (List ℕ)) (p : Place) → InKind (segments_step names lists p)
unfolding segments_step
after_segment names lists p =
    chain (line_at p) _ (widen _ (line_plain p)) (λ l.
    kind_in_by _ (is_segment_word lists (first_of (fields_of l.0))) (segment_added names (first_of (fields_of l.0)))
    lists p.at (fields_of l.0) l.1 tt (segment_line names _ p.at lists _) (widen _ (end_plain p.at lists (fields_of l.0) l.1)))

position : (jobs machines at : ℕ) (fields : List (List ℕ)) → InKind (position_at jobs machines at fields)
unfolding position_at
position jobs machines at fields = chain _ _ (widen _ (ordinal_plain at what.Machines machines _)) (λ m. chain _ _ (widen _ (ordinal_plain at what.Place jobs _)) (λ k. fine _))

column_price : (at : ℕ) (w : List ℕ) → InKind (column_price_at at w)
unfolding column_price_at
column_price at w = chain _ _ (price at w) (λ x. given _ (Limit at what.Price) _ tt (fine _))

column_line : (jobs machines at : ℕ) (prices : List ℤ) (fields : List (List ℕ)) → InKind (column_added jobs machines at prices fields)
unfolding column_added
column_line jobs machines at prices fields =
    given _ (Count at) _ tt (chain _ _ (position jobs machines at fields) (λ k. chain _ _ (column_price at _) (λ x. given _ (Again at) _ tt (fine _))))

after_column : (jobs machines before : ℕ) (prices : List ℤ) (p : Place) → InKind (columns_step jobs machines before prices p)
unfolding columns_step
after_column jobs machines before prices p =
    chain (line_at p) _ (widen _ (line_plain p)) (λ l.
    kind_in_by _ (bytes_eq (first_of (fields_of l.0)) (codes "column")) (column_added jobs machines)
    prices p.at (fields_of l.0) l.1 tt (column_line jobs machines p.at prices _) (widen _ (end_plain p.at prices (fields_of l.0) l.1)))

-- ---- the whole

lines : {A : Type 0} (step : A → Place → Result (LineRead A) FileFault) → ((d : A) (p : Place) → InKind (step d p)) → (d : A) (p : Place) → InKind (lines_from step d p)
lines step each d p = lines_each step None (λ at. tt) (λ next h. h) each _ d p

last_in : {B : Type 0} (q : Place) (make : Place → B) → InKind (word_line_at (codes "end") q >>= λ p. Ok (make p))
last_in q make = chain _ _ (widen _ (word_plain _ q)) (λ p. fine (make p))

module _ (names : List (List ℕ)) (machines : ℕ) where
  proof_in : (k : Kind) (p : Place) → InKind (proof_at names machines k p)
  unfolding group_proof machine_proof line_proof levels_proof segments_proof block_proof prices_proof
  proof_in kind.Group p = chain _ _ (lines (jobs_step names 0) (after_job names 0) [] p) (λ x. fine _)
  proof_in kind.Machine p = chain _ _ (machine_line machines p) (λ m. last_in m.1 _)
  proof_in kind.Line p = chain _ _ (job_line names p) (λ j. last_in j.1 _)
  proof_in kind.Levels p = chain _ _ (tail_line p) (λ t. chain _ _ (numbers level_at (codes "level") 1 [] names t.1 level) (λ l. last_in l.1 _))
  proof_in kind.Segments p =
      chain _ _ (chain (segments_step names [] p) _ (after_segment names [] p) (λ l.
      goes_on_in None _ (λ d q. lines (segments_step names) (after_segment names) d q) (λ d q. lines (segments_step names) (after_segment names) d q) l)) (λ x. fine _)
  proof_in kind.Block p =
      chain _ _ (numbers head_at (codes "head") 0 [] names p head) (λ n. chain _ _ (lines (jobs_step names (length n.0)) (after_job names (length n.0)) [] n.1) (λ x. fine _))
  proof_in kind.Prices p =
      chain _ _ (numbers price_at (codes "row") 0 [] names p price) (λ n.
      chain _ _ (lines (columns_step (length names) machines (length n.0)) (after_column (length names) machines (length n.0)) [] n.1) (λ x. fine _))

  certified : (p : Place) → InKind (certified_at names machines p)
  unfolding certified_at evidence_at
  certified p =
      chain (word_line_at (codes "certificate") p) _ (widen _ (word_plain _ p)) (λ q.
      chain (cost_line_at (codes "bound") GREATEST_BOUND q) _ (widen _ (cost_plain _ _ q)) (λ b.
      chain (kind_at b.1) _ (kind_line b.1) (λ k. chain (proof_at names machines k.0 k.1) _ (proof_in k.0 k.1) (λ x. fine _))))

  kind_certificate : (e : FileFault) → IsKindFault e → IsCertificateFault e
  kind_certificate (ClassBroken fault name) h = h
  kind_certificate (Cycle job name) h = h
  kind_certificate (Head at) h = h
  kind_certificate (ArcAgain at) h = h
  kind_certificate _ h = tt

  -- the faults of a certificate text
  pub certificate_faults : (line : ℕ) (b : List ℕ) (e : FileFault) → ReadsCertificate names machines line b (Err e) → IsCertificateFault e
  certificate_faults line b e h = by (whole_in _ e (certified (record { at = line; rest = b })) (sym h))
    where
      by : IsKindFault e ⊎ ((at : ℕ) × (e ≡ After at)) → IsCertificateFault e
      by (inl k) = kind_certificate e k
      by (inr k) = subst IsCertificateFault (sym k.1) tt

  -- reading gives no out of memory
  pub certificate_remembers : (line : ℕ) (b : List ℕ) → ¬ ReadsCertificate names machines line b (Err Memory)
  certificate_remembers line b h = whole_remembers _ (certified (record { at = line; rest = b })) (λ k. k) (sym h)
