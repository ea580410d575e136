-- Reading lines gives plain faults alone, which texts of every kind can have.
use Rattle.std.proofs.Common.{◌≡◌, ◌⊎◌, inl, inr, ℕ, zero, suc, sym, ◌+◌, nat_le, Bool, true, false, ◌==◌, List, [], ◌∷◌, length, Option, None, Some, Result, Ok, Err, ok_or, position}
use Rattle.std.proofs.Common.{bytes_eq, codes, ℤ, pos, negsuc, unsigned_abs, refl, ap, subst, take, drop, if◌then◌else◌}
use Rattle.msp_grammar.specs.declared.limits.TheConstants.{GREATEST_DENOMINATOR}
use Rattle.msp_grammar.specs.lines.Costs.{denominator_at, cost_in, cost_line_at}
use Rattle.msp_grammar.specs.declared.lines.fault.What.{What}
use Rattle.msp_grammar.specs.declared.lines.fault.FileFault.{FileFault}
use Rattle.msp_grammar.specs.declared.lines.fault.FileFault.TheVariants.{Missing, Cut, Line, Count, Name, Number, Limit, Unknown, After, Memory}
use Rattle.msp_grammar.specs.declared.lines.fault.What.TheVariants as what
use Rattle.msp_text.specs.declared.job_name.TheConstants.{LONGEST_NAME}
use Rattle.msp_text.specs.Numbers.{number_of}
use Rattle.msp_grammar.specs.lines.Reading.{first_of, ◌>>=◌, provided, Place, line_at, worded_at, word_line_at, field_line_at, natural_in, natural_at, ordinal_at, number_line_at}
use Rattle.msp_grammar.specs.lines.Reading.{integer_at, is_name_text, job_name_at, known_at, end_at, LineRead, job_read, more_read, end_read, goes_on, lines_by, all_of}

-- A fault of a line that texts of every kind can have.
abbrev pub IsPlainFault : FileFault → Type 0
IsPlainFault (Missing at) = Unit {0}
IsPlainFault (Cut at) = Unit {0}
IsPlainFault (Line at) = Unit {0}
IsPlainFault (Count at) = Unit {0}
IsPlainFault (Name at) = Unit {0}
IsPlainFault (Number at) = Unit {0}
IsPlainFault (Limit at quantity) = Unit {0}
IsPlainFault (Unknown at) = Unit {0}
IsPlainFault _ = ⊥

-- The faults of what is read are all of this kind.
pub record InBy (P : FileFault → Type 0) {A : Type 0} (r : Result A FileFault) : Type 0 where
  pub fault : (e : FileFault) → r ≡ Err e → P e

abbrev pub IsPlain : {A : Type 0} → Result A FileFault → Type 0
IsPlain r = InBy IsPlainFault r

module _ {P : FileFault → Type 0} where
  pub fine : {A : Type 0} (x : A) → InBy P (Ok x)
  fine x = record { fault = λ e h. absurd cc }

  pub bad : {A : Type 0} (e : FileFault) → P e → InBy P {A = A} (Err e)
  bad {A} e h = record { fault = λ d k. let same : e ≡ d = cc in subst P same h }

  pub chain : {A B : Type 0} (r : Result A FileFault) (f : A → Result B FileFault) → InBy P r → ((x : A) → InBy P (f x)) → InBy P (r >>= f)
  chain (Ok x) f h k = k x
  chain (Err e) f h k = bad e (h.fault e refl)

  pub given : {A : Type 0} (b : Bool) (e : FileFault) (r : Result A FileFault) → P e → InBy P r → InBy P (provided b e r)
  given true e r h k = k
  given false e r h k = bad e h

  pub or_fault : {A : Type 0} (o : Option A) (e : FileFault) → P e → InBy P (ok_or o e)
  or_fault None e h = bad e h
  or_fault (Some x) e h = fine x

  pub either : {A : Type 0} (b : Bool) (r s : Result A FileFault) → InBy P r → InBy P s → InBy P (if b then r else s)
  either true r s h k = h
  either false r s h k = k

pub line_plain : (p : Place) → IsPlain (line_at p)
unfolding line_at
line_plain p = by (position (λ x. x == 10) p.rest) p.rest
  where
    by : (o : Option ℕ) (rest : List ℕ)
        → IsPlain {A = List ℕ × Place} (elim o [ Some k ↦ Ok (take k p.rest, record { at = p.at + 1; rest = drop (k + 1) p.rest }) | None ↦ Err (elim rest [ [] ↦ Missing p.at | _ ∷ _ ↦ Cut p.at ]) ])
    by (Some k) rest = fine _
    by None [] = bad _ tt
    by None (x ∷ xs) = bad _ tt

pub worded_plain : (word : List ℕ) (p : Place) → IsPlain (worded_at word p)
unfolding worded_at
worded_plain word p = chain (line_at p) _ (line_plain p) (λ l. given _ _ _ tt (fine _))

pub word_plain : (word : List ℕ) (p : Place) → IsPlain (word_line_at word p)
unfolding word_line_at
word_plain word p = chain _ _ (worded_plain word p) (λ l. given _ _ _ tt (fine _))

pub field_plain : (word : List ℕ) (p : Place) → IsPlain (field_line_at word p)
unfolding field_line_at
field_plain word p = chain _ _ (worded_plain word p) (λ l. given _ _ _ tt (fine _))

natural_range : (at : ℕ) (q : What) (least greatest : ℕ) (x : ℤ) → IsPlain (natural_in at q least greatest x)
natural_range at q least greatest (pos n) = given _ _ _ tt (fine n)
natural_range at q least greatest (negsuc n) = bad _ tt

pub natural_plain : (at : ℕ) (q : What) (least greatest : ℕ) (w : List ℕ) → IsPlain (natural_at at q least greatest w)
unfolding natural_at
natural_plain at q least greatest w = chain _ _ (or_fault (number_of w) _ tt) (natural_range at q least greatest)

pub ordinal_plain : (at : ℕ) (q : What) (most : ℕ) (w : List ℕ) → IsPlain (ordinal_at at q most w)
unfolding ordinal_at
ordinal_plain at q most w = chain _ _ (natural_plain at q 1 most w) (λ n. fine _)

pub number_line_plain : (word : List ℕ) (q : What) (greatest : ℕ) (p : Place) → IsPlain (number_line_at word q greatest p)
unfolding number_line_at
number_line_plain word q greatest p = chain _ _ (worded_plain word p) (λ l. given _ _ _ tt (chain _ _ (natural_plain p.at q 1 greatest _) (λ n. fine _)))

pub integer_plain : (at : ℕ) (q : What) (greatest : ℕ) (w : List ℕ) → IsPlain (integer_at at q greatest w)
unfolding integer_at
integer_plain at q greatest w = chain _ _ (or_fault (number_of w) _ tt) (λ x. given _ _ _ tt (fine x))

pub named_plain : (at : ℕ) (w : List ℕ) → IsPlain (job_name_at at w)
unfolding job_name_at
named_plain at w = given (is_name_text w) (Name at) _ tt (given (nat_le (length w) LONGEST_NAME) (Limit at what.Name) _ tt (fine w))

pub known_plain : (at : ℕ) (names : List (List ℕ)) (w : List ℕ) → IsPlain (known_at at names w)
unfolding known_at
known_plain at names w = chain _ _ (named_plain at w) (λ name. or_fault (position (bytes_eq name) names) _ tt)

pub end_plain : {A : Type 0} (at : ℕ) (d : A) (fields : List (List ℕ)) (p : Place) → IsPlain (end_at at d fields p)
end_plain at d fields p = given (bytes_eq (first_of fields) (codes "end")) (Line at) _ tt (given (length fields == 1) (Count at) _ tt (fine (end_read d p)))

-- lines that are read one by one
pub goes_on_in : {P : FileFault → Type 0} {A : Type 0} (other : Option (A → Place → Result (A × Place) FileFault)) (next : A → Place → Result (A × Place) FileFault)
    → ((d : A) (p : Place) → InBy P (elim other [ None ↦ next d p | Some last ↦ last d p ])) → ((d : A) (p : Place) → InBy P (next d p)) → (line : LineRead A) → InBy P (goes_on other next line)
goes_on_in other next k h (job_read d p) = h d p
goes_on_in None next k h (more_read d p) = h d p
goes_on_in (Some last) next k h (more_read d p) = k d p
goes_on_in other next k h (end_read d p) = fine (d, p)

pub lines_each : {P : FileFault → Type 0} {A : Type 0} (step : A → Place → Result (LineRead A) FileFault) (other : Option (A → Place → Result (A × Place) FileFault)) → ((at : ℕ) → P (Missing at))
    → ((next : A → Place → Result (A × Place) FileFault) → ((d : A) (p : Place) → InBy P (next d p)) → (d : A) (p : Place) → InBy P (elim other [ None ↦ next d p | Some last ↦ last d p ]))
    → ((d : A) (p : Place) → InBy P (step d p)) → (n : ℕ) (d : A) (p : Place) → InBy P (lines_by step other n d p)
unfolding lines_by
lines_each step other m k h zero d p = bad _ (m p.at)
lines_each step other m k h (suc n) d p =
    let next = lines_each step other m k h n in
    chain (step d p) _ (h d p) (λ l. goes_on_in other (lines_by step other n) (k (lines_by step other n) next) next l)

-- the fault of a whole text is one of its lines, or that more follows them
pub whole_in : {P : FileFault → Type 0} {A : Type 0} (lines : Result (A × Place) FileFault) (e : FileFault) → InBy P lines → Err e ≡ (lines >>= all_of) → P e ⊎ ((at : ℕ) × (e ≡ After at))
whole_in (Err d) e h is = let same : d ≡ e = cc in inl (h.fault e (ap Err same))
whole_in {P} (Ok x) e h is = last (length x.1.rest == 0) is
  where
    last : (b : Bool) → Err e ≡ provided b (After x.1.at) (Ok x.0) → P e ⊎ ((at : ℕ) × (e ≡ After at))
    last true same = absurd cc
    last false same = inr (x.1.at, cc)

-- reading a whole text gives no out of memory, where its lines give none
pub whole_remembers : {P : FileFault → Type 0} {A : Type 0} (lines : Result (A × Place) FileFault) → InBy P lines → ¬ P Memory → ¬ (Err Memory ≡ (lines >>= all_of))
whole_remembers {P} lines h none is = by (whole_in lines Memory h is)
  where
    by : P Memory ⊎ ((at : ℕ) × (Memory ≡ After at)) → ⊥
    by (inl k) = none k
    by (inr k) = let same = k.1 in absurd cc

-- ---- costs

denominator : (at : ℕ) (ws : List (List ℕ)) → IsPlain (denominator_at at ws)
denominator at [] = fine _
denominator at (w ∷ []) = or_fault (number_of w) _ tt
denominator at (w ∷ v ∷ ws) = bad _ tt

cost_fields : (greatest at : ℕ) (w : List ℕ) → IsPlain (cost_in greatest at w)
unfolding cost_in
cost_fields greatest at w =
    chain _ _ (or_fault (number_of _) _ tt) (λ x.
    chain _ _ (denominator at _) (λ y.
    given (nat_le (unsigned_abs x) greatest) (Limit at what.Cost) _ tt (chain _ _ (natural_range at what.Cost 1 GREATEST_DENOMINATOR y) (λ d. fine _))))

pub cost_plain : (word : List ℕ) (greatest : ℕ) (p : Place) → IsPlain (cost_line_at word greatest p)
unfolding cost_line_at
cost_plain word greatest p = chain _ _ (field_plain word p) (λ l. chain _ _ (cost_fields greatest p.at _) (λ x. fine _))
