-- Reading counts the lines that it takes.
use Rattle.std.proofs.Common.{◌≡◌, ◌⊎◌, ℕ, zero, suc, ◌+◌, ◌*◌, nat_le, Bool, true, false, ◌&&◌, ◌==◌, List, ◌∷◌, [], ◌++◌, length, take, drop, Option, Some, None, Result, Ok, Err}
use Rattle.std.proofs.Common.{count_by, cond, ap, ◌∙◌, position, bytes_eq, codes, refl, sym, subst, arith, if◌then◌else◌}
use Rattle.std.proofs.lemmas.List.{take_rest}
use Rattle.std.proofs.lemmas.List.Sums.{sum_by-append}
use Rattle.std.proofs.lemmas.List.Splits.{length-slice_split}
use Rattle.std.specs.List.{slice_split}
use Rattle.msp_class.specs.declared.sizes.TheConstants.{MOST_OPERATIONS, MOST_STEPS, GREATEST_MULTIPLE}
use Rattle.msp_class.specs.Env.{fixed_machines}
use Rattle.msp_class.specs.declared.class.Class.{Class}
use Rattle.msp_class.specs.declared.class.Env.{Env}
use Rattle.msp_class.specs.declared.class.Times.{Times}
use Rattle.msp_class.specs.declared.class.Crit.{Crit}
use Rattle.msp_name.proofs.Parts.{cut-slices}
use Rattle.msp_grammar.specs.declared.filed.Filed.{Filed}
use Rattle.msp_grammar.specs.Layout.{has_order}
use Rattle.msp_grammar.specs.declared.lines.fault.FileFault.{FileFault}
use Rattle.msp_grammar.specs.declared.lines.fault.FileFault.TheVariants.{Limit, Missing, Cut, Line, Count, After}
use Rattle.msp_grammar.specs.declared.lines.fault.What.{What}
use Rattle.msp_grammar.specs.declared.lines.fault.What.TheVariants as what
use Rattle.msp_file.specs.declared.instance.draft.Draft.{Draft}
use Rattle.msp_grammar.specs.lines.Reading.{◌>>=◌, provided, Place, line_at, fields_of, first_of, others_of, worded_at, LineRead, job_read, more_read, end_read, goes_on, lines_by}
use Rattle.msp_grammar.specs.lines.Reading.{number_line_at, front_of}
use Rattle.msp_file.specs.instance.Reading.{times_line_at, operations_in, is_route_count, route_line_at, steps_in, needs_at, curve_line_at, curve_at, job_at_line, arc_line_at}
use Rattle.msp_file.specs.instance.Reading.{arc_or_end, arc_step, job_step, arcs_from, jobs_from, has_multiple, timed_from, speeds_from, lines_at}
use Rattle.msp_file.specs.instance.Reading.{start_of, Reads, ReadsFront, no_draft, version_at, class_at, machines_line_at, machines_at, speeds_line_at, speeds_at, time_at}
use Rattle.msp_grammar.proofs.reading.LineFaults.{fine, bad, line_plain, whole_in}
use Rattle.msp_file.proofs.instances.LineFaults.{IsLineFault, InLines, widen, natural, job_line, times, operations, curve_fields, arc_line, class_fields, speeds_fields}

-- The lines in what is left of a text.
abbrev pub feeds : List ℕ → ℕ
feeds bytes = count_by (λ x. x == 10) bytes

pub feeds-append : (xs ys : List ℕ) → feeds (xs ++ ys) ≡ feeds xs + feeds ys
feeds-append xs ys = sum_by-append (λ x. cond (x == 10) 1 0) xs ys

-- The number of the next line, and of the lines from it on.
abbrev lines : Place → ℕ
lines p = p.at + feeds p.rest

-- What was read leaves a place that counts as many lines as this one, and its faults are those of lines.
pub record Runs {A : Type 0} (left : A → Place) (p : Place) (r : Result A FileFault) : Type 0 where
  same : (x : A) → r ≡ Ok x → lines (left x) ≡ lines p
  pub faults : InLines r

abbrev after : {A : Type 0} → A × Place → Place
after x = x.1

abbrev place : Place → Place
place p = p

abbrev after_line : LineRead Draft → Place
after_line (job_read d p) = p
after_line (more_read d p) = p
after_line (end_read d p) = p

stays : {A : Type 0} {left : A → Place} {p : Place} (x : A) → left x ≡ p → Runs left p (Ok x)
stays {left = left} {p} x h = record {
  same = λ y e. let is : x ≡ y = cc in subst (λ z. lines (left z) ≡ lines p) is (subst (λ q. lines q ≡ lines p) (sym h) refl);
  faults = fine x;
}

stops : {A : Type 0} {left : A → Place} {p : Place} (e : FileFault) → IsLineFault e → Runs left p (Err e)
stops e h = record { same = λ x k. absurd cc; faults = bad e h }

goes : {A B : Type 0} {left : A → Place} {last : B → Place} {p : Place} (r : Result A FileFault) (f : A → Result B FileFault)
    → Runs left p r → ((x : A) → Runs last (left x) (f x)) → Runs last p (r >>= f)
goes (Ok x) f h k = record { same = λ y e. let here = h.same x refl in let there = (k x).same y e in omega arith; faults = (k x).faults }
goes (Err e) f h k = stops e (h.faults.fault e refl)

-- a step within a line
within : {A B : Type 0} {last : B → Place} {p : Place} (r : Result A FileFault) (f : A → Result B FileFault)
    → InLines r → ((x : A) → Runs last p (f x)) → Runs last p (r >>= f)
within (Ok x) f h k = k x
within (Err e) f h k = stops e (h.fault e refl)

given : {A : Type 0} {left : A → Place} {p : Place} (b : Bool) (e : FileFault) (r : Result A FileFault)
    → IsLineFault e → Runs left p r → Runs left p (provided b e r)
given true e r h k = k
given false e r h k = stops e h

either : {A : Type 0} {left : A → Place} {p : Place} (b : Bool) (r s : Result A FileFault) → Runs left p r → Runs left p s → Runs left p (if b then r else s)
either true r s h k = h
either false r s h k = k

-- ---- lines

feeds_cut : (bytes : List ℕ) (k : ℕ) → position (λ x. x == 10) bytes ≡ Some k → feeds bytes ≡ feeds (drop (k + 1) bytes) + 1
feeds_cut bytes k e =
    let cut : slice_split (λ x. x == 10) bytes ≡ take k bytes ∷ slice_split (λ x. x == 10) (drop (k + 1) bytes) =
    (cut-slices 10 k bytes (sym e)).0 ∙ ap (λ bs. take k bytes ∷ slice_split (λ x. x == 10) bs) (take_rest bytes (k + 1)) in
    let parts = ap length cut in
    omega (arith, length-slice_split (λ x. x == 10) (drop (k + 1) bytes), length-slice_split (λ x. x == 10) bytes)

line : (p : Place) → Runs after p (line_at p)
unfolding line_at
line p = record { same = by (position (λ x. x == 10) p.rest) refl; faults = widen _ (line_plain p) }
  where
    by : (o : Option ℕ) → position (λ x. x == 10) p.rest ≡ o → (x : List ℕ × Place) → ◌≡◌ {A = Result (List ℕ × Place) FileFault}
        (elim o [ Some k ↦ Ok (take k p.rest, record { at = p.at + 1; rest = drop (k + 1) p.rest }) | None ↦ Err (elim p.rest [ [] ↦ Missing p.at | _ ∷ _ ↦ Cut p.at ]) ])
        (Ok x) → lines x.1 ≡ lines p
    by (Some k) e x h = let is : (take k p.rest, record { at = p.at + 1; rest = drop (k + 1) p.rest }) ≡ x = cc in
        subst (λ (y : List ℕ × Place). lines y.1 ≡ lines p) is (let more = feeds_cut p.rest k e in omega arith)
    by None e x h = absurd cc

worded : (word : List ℕ) (p : Place) → Runs after p (worded_at word p)
unfolding worded_at
worded word p = goes _ _ (line p) (λ l. given _ _ _ tt (stays _ refl))

times_line : (least machines : ℕ) (p : Place) → Runs after p (times_line_at least machines p)
unfolding times_line_at
times_line least machines p = goes _ _ (worded _ p) (λ l. given _ _ _ tt (within _ _ (times p.at _ [] l.0) (λ needs. stays _ refl)))

route_line : (timed : Bool) (most machines time : ℕ) (p : Place) → Runs after p (route_line_at timed most machines time p)
unfolding route_line_at
route_line timed most machines time p =
    goes _ _ (worded _ p) (λ l.
    given (nat_le (operations_in timed (length l.0)) MOST_OPERATIONS) (Limit p.at what.Route) _ tt (
    given (is_route_count timed most (length l.0)) (Count p.at) _ tt (within _ _ (operations timed p.at machines time l.0) (λ needs. stays _ refl))))

needs : (c : Class) (machines time : ℕ) (p : Place) → Runs after p (needs_at c machines time p)
unfolding needs_at
needs c machines time p = either _ _ _ (times_line _ machines p) (either _ _ _ (route_line _ _ machines time p) (stays _ refl))

curve_line : (p : Place) → Runs after p (curve_line_at p)
unfolding curve_line_at
curve_line p =
    goes _ _ (worded _ p) (λ l.
    given (nat_le (steps_in (length l.0)) MOST_STEPS) (Limit p.at what.Steps) _ tt (
    given (length l.0 == 2 + 2 * steps_in (length l.0)) (Count p.at) _ tt (within _ _ (curve_fields p.at l.0) (λ curve. stays _ refl))))

curve : (crit : Crit) (p : Place) → Runs after p (curve_at crit p)
unfolding curve_at
curve crit p = either _ _ _ (curve_line p) (stays _ refl)

job : (c : Class) (machines shared : ℕ) (d : Draft) (at : ℕ) (fields : List (List ℕ)) (p : Place) → Runs after p (job_at_line c machines shared d at fields p)
unfolding job_at_line
job c machines shared d at fields p =
    given _ _ _ tt (within _ _ (job_line c at d.names fields) (λ l.
    goes _ _ (needs c machines _ p) (λ n.
    goes _ _ (curve c.crit n.1) (λ v. stays _ refl))))

arc_or_last : (may : Bool) (at : ℕ) (d : Draft) (fields : List (List ℕ)) (p : Place) → Runs after_line p (arc_or_end may at d fields p)
arc_or_last may at d fields p = either (may && bytes_eq (first_of fields) (codes "arc")) _ _ (within (arc_line_at at d (others_of fields)) _ (arc_line at d (others_of fields)) (λ e. stays _ refl))
    (given (bytes_eq (first_of fields) (codes "end")) (Line at) _ tt (given (length fields == 1) (Count at) _ tt (stays (end_read d p) refl)))

after_arc : (d : Draft) (p : Place) → Runs after_line p (arc_step d p)
unfolding arc_step
after_arc d p = goes (line_at p) _ (line p) (λ l. arc_or_last true p.at d (fields_of l.0) l.1)

after_job : (c : Class) (machines shared : ℕ) (d : Draft) (p : Place) → Runs after_line p (job_step c machines shared d p)
unfolding job_step
after_job c machines shared d p =
    goes (line_at p) _ (line p) (λ l.
    let fields = fields_of l.0 in
    either (bytes_eq (first_of fields) (codes "job")) _ _ (goes (job_at_line c machines shared d p.at (others_of fields) l.1)
    _ (job c machines shared d p.at (others_of fields) l.1) (λ e. stays _ refl)) (arc_or_last (has_order c.order) p.at d fields l.1))

-- ---- lines up to the end

abbrev Reader : Type 0
Reader = Draft → Place → Result (Draft × Place) FileFault

after_one : (other : Option Reader) (next : Reader) → ((d : Draft) (p : Place) → Runs {A = Draft × Place} after p (elim other [ None ↦ next d p | Some last ↦ last d p ]))
    → ((d : Draft) (p : Place) → Runs after p (next d p)) → (l : LineRead Draft) → Runs after (after_line l) (goes_on other next l)
after_one other next k h (job_read d p) = h d p
after_one None next k h (more_read d p) = h d p
after_one (Some last) next k h (more_read d p) = k d p
after_one other next k h (end_read d p) = stays _ refl

each_line : (step : Draft → Place → Result (LineRead Draft) FileFault) (other : Option Reader)
    → ((next : Reader) → ((d : Draft) (p : Place) → Runs after p (next d p)) → (d : Draft) (p : Place) → Runs {A = Draft × Place} after p (elim other [ None ↦ next d p | Some last ↦ last d p ]))
    → ((d : Draft) (p : Place) → Runs after_line p (step d p)) → (n : ℕ) (d : Draft) (p : Place) → Runs after p (lines_by step other n d p)
unfolding lines_by
each_line step other k h zero d p = stops _ tt
each_line step other k h (suc n) d p =
    let next = each_line step other k h n in
    goes (step d p) _ (h d p) (after_one other (lines_by step other n) (k (lines_by step other n) next) next)

arcs : (d : Draft) (p : Place) → Runs after p (arcs_from d p)
arcs d p = each_line arc_step None (λ next h. h) after_arc _ d p

jobs : (c : Class) (machines shared : ℕ) (d : Draft) (p : Place) → Runs after p (jobs_from c machines shared d p)
jobs c machines shared d p = each_line (job_step c machines shared) (Some arcs_from) (λ next h. arcs) (after_job c machines shared) _ d p

-- ---- the head

version : (p : Place) → Runs place p (version_at p)
unfolding version_at
version p = goes _ _ (line p) (λ l. given _ _ _ tt (stays _ refl))

class_line : (p : Place) → Runs after p (class_at p)
unfolding class_at
class_line p = goes _ _ (line p) (λ l. within _ _ (class_fields p.at (fields_of l.0)) (λ c. stays _ refl))

number_line : (word : List ℕ) (q : What) (greatest : ℕ) (p : Place) → Runs after p (number_line_at word q greatest p)
unfolding number_line_at
number_line word q greatest p = goes _ _ (worded word p) (λ l. given _ _ _ tt (within _ _ (natural p.at q 1 greatest _) (λ m. stays _ refl)))

machines : (e : Env) (p : Place) → Runs after p (machines_at e p)
unfolding machines_at
machines e p = by (fixed_machines e)
  where
    by : (o : Option ℕ) → Runs {A = ℕ × Place} after p (elim o [ Some machines ↦ Ok (machines, p) | None ↦ machines_line_at p ])
    by (Some m) = stays _ refl
    by None = number_line _ _ _ p

speeds_line : (machines : ℕ) (p : Place) → Runs after p (speeds_line_at machines p)
unfolding speeds_line_at
speeds_line m p = goes _ _ (worded _ p) (λ l. given _ _ _ tt (within _ _ (speeds_fields p.at [] l.0) (λ speeds. stays _ refl)))

speeds : (e : Env) (machines : ℕ) (p : Place) → Runs after p (speeds_at e machines p)
unfolding speeds_at
speeds e machines p = either _ _ _ (speeds_line machines p) (stays _ refl)

time : (t : Times) (p : Place) → Runs after p (time_at t p)
unfolding time_at
time t p = either _ _ _ (number_line _ _ _ p) (stays _ refl)

timed_lines : (c : Class) (machines : ℕ) (p : Place) → Runs after p (timed_from c machines p)
unfolding timed_from
timed_lines c m p = goes (time_at c.times p) _ (time c.times p) (λ t. jobs c m t.0 no_draft t.1)

speeds_lines : (c : Class) (machines : ℕ) (p : Place) → Runs after p (speeds_from c machines p)
unfolding speeds_from
speeds_lines c m p =
    goes (speeds_at c.env m p) _ (speeds c.env m p) (λ s.
    given (has_multiple GREATEST_MULTIPLE s.0) (Limit p.at what.Multiple) _ tt (
    goes (timed_from c m s.1) _ (timed_lines c m s.1) (λ l. stays _ refl)))

-- the lines of an instance are counted, and reading them gives faults of lines
pub lines_counted : (p : Place) → Runs after p (lines_at p)
unfolding lines_at
lines_counted p =
    goes (version_at p) _ (version p) (λ q.
    goes (class_at q) _ (class_line q) (λ c.
    goes (machines_at c.0.env c.1) _ (machines c.0.env c.1) (λ m. speeds_lines c.0 m.0 m.1)))

pub line_after : (b : List ℕ) (x : Filed × Place) → lines_at (record { at = 1; rest = b }) ≡ Ok x → x.1.at + feeds x.1.rest ≡ 1 + feeds b
line_after b x h = (lines_counted (record { at = 1; rest = b })).same x h

-- what follows the lines is the one fault of a text beside those of its lines
pub whole : (b : List ℕ) (e : FileFault) → Reads b (Err e) → IsLineFault e ⊎ ((at : ℕ) × (e ≡ After at))
whole b e h = whole_in (lines_at (start_of b)) e (lines_counted (start_of b)).faults (sym h)

pub front : (b : List ℕ) (e : FileFault) → ReadsFront b (Err e) → IsLineFault e
front b e h = by (lines_at (start_of b)) (lines_counted (start_of b)).faults (sym h)
  where
    by : (lines : Result (Filed × Place) FileFault) → InLines lines → Err e ≡ (lines >>= front_of) → IsLineFault e
    by (Err d) k is = let same : d ≡ e = cc in k.fault e (ap Err same)
    by (Ok x) k is = absurd cc
