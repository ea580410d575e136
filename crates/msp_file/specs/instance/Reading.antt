-- How the text of an instance is read: line by line, and in a line from left to right, up to the first fault.
use Rattle.std.specs.Prelude.{◌≡◌, ℕ, zero, suc, ◌+◌, ◌-◌, ◌*◌, ◌/◌, ◌%◌, ◌||◌, Bool, true, false, ◌&&◌, not, ◌==◌, nat_le, nat_lt, if◌then◌else◌, List, [], ◌∷◌, ◌++◌, length, map, Some, None}
use Rattle.std.specs.Prelude.{Result, Ok, Err, codes, bytes_eq, ℤ, pos}
use Rattle.std.specs.List.{list_any, list_all, range_with_len}
use Rattle.msp_class.specs.declared.environments.EnvKind.{EnvKind}
use Rattle.msp_class.specs.declared.sizes.TheConstants.{MOST_JOBS, MOST_MACHINES, MOST_ARCS, MOST_OPERATIONS, MOST_STEPS, GREATEST, GREATEST_SPEED, GREATEST_EQUAL_TIME}
use Rattle.msp_class.specs.Crit.{uses_due, uses_weight, uses_curve}
use Rattle.msp_class.specs.Env.{fixed_machines, kind_of, most_operations}
use Rattle.msp_class.specs.Rank.{flag_number}
use Rattle.msp_class.specs.declared.class.Class.{Class}
use Rattle.msp_class.specs.declared.class.Env.{Env}
use Rattle.msp_class.specs.declared.class.Times.{Times}
use Rattle.msp_class.specs.declared.class.Crit.{Crit}
use Rattle.msp_name.specs.Reading.{reading_of}
use Rattle.msp_instance.specs.declared.Need.{Need}
use Rattle.msp_instance.specs.declared.Step.{Step}
use Rattle.msp_instance.specs.declared.Curve.{Curve}
use Rattle.msp_instance.specs.declared.Job.{Job}
use Rattle.msp_instance.specs.Instance.{no_curve}
use Rattle.msp_instance.specs.Conditions.{least_time}
use Rattle.msp_class.specs.declared.sizes.TheConstants.{GREATEST_MULTIPLE}
use Rattle.msp_grammar.specs.declared.lines.fault.What.{What}
use Rattle.msp_grammar.specs.declared.lines.fault.What.TheVariants as what
use Rattle.msp_grammar.specs.declared.lines.fault.FileFault.{FileFault}
use Rattle.msp_grammar.specs.declared.lines.fault.FileFault.TheVariants.{Head, Count, Key, Limit, Again, ArcAgain}
use Rattle.msp_file.specs.declared.instance.job.Keys.{Keys}
use Rattle.msp_file.specs.instance.ArcFlags.{is_arc_among}
use Rattle.msp_file.specs.declared.instance.draft.Draft.{Draft}
use Rattle.msp_grammar.specs.declared.filed.Filed.{Filed}
use Rattle.msp_grammar.specs.Layout.{has_times, has_time_line, has_one_time, has_route, has_speeds, has_order, has_time_key, has_times_line}
use Rattle.msp_text.specs.Bytes.{equals_byte}
use Rattle.msp_grammar.specs.lines.Reading.{◌>>=◌, provided, Place, line_at, fields_of, first_of, others_of, worded_at, natural_at, integer_at, job_name_at, known_at, machine_at}
use Rattle.msp_grammar.specs.lines.Reading.{LineRead, job_read, more_read, end_at, lines_by, lines_from, number_line_at, all_of, front_of}

-- The letters of the keys.
abbrev pub time_letter : ℕ
time_letter = 112

abbrev pub release_letter : ℕ
release_letter = 114

abbrev pub due_letter : ℕ
due_letter = 100

abbrev pub weight_letter : ℕ
weight_letter = 119

-- The text behind a key: one letter and `=`.
abbrev pub keyed_at : ℕ → ℕ → List ℕ → Result (List ℕ) FileFault
keyed_at at letter (key ∷ equals ∷ text) = provided ((key == letter) && (equals == equals_byte)) (Key at) (Ok text)
keyed_at at letter _ = Err (Key at)

-- A number behind a key in the next field, where the class has the key, and the fields after it.
unfoldable pub natural_key_at : ℕ → Bool → ℕ → What → ℕ → ℕ → List (List ℕ) → Result (ℕ × List (List ℕ)) FileFault
natural_key_at at false letter quantity least greatest fields = Ok (least, fields)
natural_key_at at true letter quantity least greatest fields = do
  text ← keyed_at at letter (first_of fields)
  number ← natural_at at quantity least greatest text
  Ok (number, others_of fields)

unfoldable pub integer_key_at : ℕ → Bool → ℕ → What → ℕ → List (List ℕ) → Result (ℤ × List (List ℕ)) FileFault
integer_key_at at false letter quantity greatest fields = Ok (pos 0, fields)
integer_key_at at true letter quantity greatest fields = do
  text ← keyed_at at letter (first_of fields)
  number ← integer_at at quantity greatest text
  Ok (number, others_of fields)

-- ---- the line of a job

-- The keys p, r, d and w, those of them that the class has. Elsewhere the time is 1, the dates are 0 and the weight is 1.
unfoldable pub keys_at : Class → ℕ → List (List ℕ) → Result Keys FileFault
keys_at class at fields = do
  time ← natural_key_at at (has_time_key class) time_letter what.Time 1 GREATEST fields
  release ← natural_key_at at class.heads release_letter what.Release 0 GREATEST time.1
  due ← integer_key_at at (uses_due class.crit) due_letter what.Due GREATEST release.1
  weight ← natural_key_at at (uses_weight class.crit) weight_letter what.Weight 1 GREATEST due.1
  Ok (record { time = time.0; release = release.0; due = due.0; weight = weight.0 })

-- The most keys of a job's line.
abbrev pub most_keys : ℕ
most_keys = 4

abbrev pub count_of_keys : Class → ℕ
count_of_keys class = flag_number (has_time_key class) + flag_number class.heads + flag_number (uses_due class.crit) + flag_number (uses_weight class.crit)

-- The name and the keys in the line of a job whose name no earlier job has.
unfoldable pub job_line_at : Class → ℕ → List (List ℕ) → List (List ℕ) → Result (List ℕ × Keys) FileFault
job_line_at class at names fields =
    provided (length fields == 1 + count_of_keys class) (Count at) (do
      name ← job_name_at at (first_of fields)
      keys ← keys_at class at (others_of fields)
      provided (not (list_any (bytes_eq name) names)) (Again at) (Ok (name, keys)))

-- ---- the operations of a job

-- The needs with one more at the end.
abbrev pub with_need : List Need → ℕ → ℕ → List Need
with_need needs machine time = needs ++ record { machine = machine; time = time } ∷ []

-- One time for each machine in order, after the needs so far.
unfoldable pub times_at : ℕ → ℕ → List Need → List (List ℕ) → Result (List Need) FileFault
times_at at least needs [] = Ok needs
times_at at least needs (field ∷ others) = do
  time ← natural_at at what.Time least GREATEST field
  times_at at least (with_need needs (length needs) time) others

unfoldable pub times_line_at : ℕ → ℕ → Place → Result (List Need × Place) FileFault
times_line_at least machines place = do
  line ← worded_at (codes "times") place
  provided (length line.0 == machines) (Count place.at) (do
    needs ← times_at place.at least [] line.0
    Ok (needs, line.1))

-- Machines in order, each with its time.
unfoldable pub timed_route_at : ℕ → ℕ → List Need → List (List ℕ) → Result (List Need) FileFault
timed_route_at at machines needs [] = Ok needs
timed_route_at at machines needs (field ∷ []) = Err (Count at)
timed_route_at at machines needs (field ∷ second ∷ others) = do
  machine ← machine_at at machines field
  time ← natural_at at what.Time 1 GREATEST second
  timed_route_at at machines (with_need needs machine time) others

-- Machines in order, each with the same time.
unfoldable pub machine_route_at : ℕ → ℕ → ℕ → List Need → List (List ℕ) → Result (List Need) FileFault
machine_route_at at machines time needs [] = Ok needs
machine_route_at at machines time needs (field ∷ others) = do
  machine ← machine_at at machines field
  machine_route_at at machines time (with_need needs machine time) others

-- How many operations so many fields begin, where times are written and where they are not.
abbrev pub operations_in : Bool → ℕ → ℕ
operations_in true fields = (fields + 1) / 2
operations_in false fields = fields

-- How many fields so many operations have.
abbrev pub fields_in : Bool → ℕ → ℕ
fields_in true operations = 2 * operations
fields_in false operations = operations

-- Operations with their times, or where times are not written with this one.
abbrev pub operations_at : Bool → ℕ → ℕ → ℕ → List (List ℕ) → Result (List Need) FileFault
operations_at true at machines time fields = timed_route_at at machines [] fields
operations_at false at machines time fields = machine_route_at at machines time [] fields

-- The number of fields is one of at least one and at most so many operations.
abbrev pub is_route_count : Bool → ℕ → ℕ → Bool
is_route_count timed most fields = let operations = operations_in timed fields in nat_le 1 operations && nat_le operations most && (fields == fields_in timed operations)

unfoldable pub route_line_at : Bool → ℕ → ℕ → ℕ → Place → Result (List Need × Place) FileFault
route_line_at timed most machines time place = do
  line ← worded_at (codes "route") place
  provided (nat_le (operations_in timed (length line.0)) MOST_OPERATIONS) (Limit place.at what.Route) (
      provided (is_route_count timed most (length line.0)) (Count place.at) (do
        needs ← operations_at timed place.at machines time line.0
        Ok (needs, line.1)))

-- The needs that no line writes, all with one time: a single one, or one for each machine.
abbrev pub unwritten_needs : EnvKind → ℕ → ℕ → List Need
unwritten_needs kind machines time =
    if has_one_time kind
    then with_need [] 0 time
    else map (λ number. record { machine = number; time = time }) (range_with_len 0 machines)

-- The needs of a job. Where no line writes a time, it is this one.
unfoldable pub needs_at : Class → ℕ → ℕ → Place → Result (List Need × Place) FileFault
needs_at class machines time place =
    if has_times_line class
    then times_line_at (least_time (kind_of class.env) class.times) machines place
    else (if has_route (kind_of class.env)
    then route_line_at (has_times class.times) (most_operations class.env) machines time place
    else Ok (unwritten_needs (kind_of class.env) machines time, place))

-- ---- the cost curve of a job

-- The steps with one more at the end.
abbrev pub with_step : List Step → ℕ → ℕ → List Step
with_step steps above add = steps ++ record { above = above; add = add } ∷ []

-- Thresholds, each with its add, after the steps so far.
unfoldable pub steps_at : ℕ → List Step → List (List ℕ) → Result (List Step) FileFault
steps_at at steps [] = Ok steps
steps_at at steps (field ∷ []) = Err (Count at)
steps_at at steps (field ∷ second ∷ others) = do
  above ← natural_at at what.Above 0 GREATEST field
  add ← natural_at at what.Add 0 GREATEST second
  steps_at at (with_step steps above add) others

unfoldable pub curve_fields_at : ℕ → List (List ℕ) → Result Curve FileFault
curve_fields_at at fields = do
  slope ← natural_at at what.Slope 0 GREATEST (first_of fields)
  base ← integer_at at what.Base GREATEST (first_of (others_of fields))
  steps ← steps_at at [] (others_of (others_of fields))
  Ok (record { slope = slope; base = base; steps = steps })

-- How many steps so many fields begin.
abbrev pub steps_in : ℕ → ℕ
steps_in fields = (fields - 1) / 2

unfoldable pub curve_line_at : Place → Result (Curve × Place) FileFault
curve_line_at place = do
  line ← worded_at (codes "curve") place
  provided (nat_le (steps_in (length line.0)) MOST_STEPS) (Limit place.at what.Steps) (
      provided (length line.0 == 2 + 2 * steps_in (length line.0)) (Count place.at) (do
        curve ← curve_fields_at place.at line.0
        Ok (curve, line.1)))

unfoldable pub curve_at : Crit → Place → Result (Curve × Place) FileFault
curve_at crit place = if uses_curve crit then curve_line_at place else Ok (no_curve, place)

-- ---- jobs and arcs

abbrev pub job_of : Keys → List Need → Curve → Job
job_of keys needs curve = record { release = keys.release; due = keys.due; weight = keys.weight; needs = needs; curve = curve }

-- The time of a job's operations that no line writes: that of its key, or the one that all operations share.
abbrev pub time_in : Class → ℕ → Keys → ℕ
time_in class shared keys = if has_time_key class then keys.time else shared

-- The job whose line has these fields, with the lines of it that come next, after the jobs so far. All operations share a time, where the class has one.
unfoldable pub job_at_line : Class → ℕ → ℕ → Draft → ℕ → List (List ℕ) → Place → Result (Draft × Place) FileFault
job_at_line class machines shared draft at fields place =
    provided (nat_lt (length draft.jobs) MOST_JOBS) (Limit at what.Jobs) (do
      line ← job_line_at class at draft.names fields
      needs ← needs_at class machines (time_in class shared line.1) place
      curve ← curve_at class.crit needs.1
      Ok (record { names = draft.names ++ line.0 ∷ []; jobs = draft.jobs ++ job_of line.1 needs.0 curve.0 ∷ []; arcs = draft.arcs }, curve.1))

-- The draft with one more arc at the end.
abbrev pub with_arc : Draft → ℕ → ℕ → Draft
with_arc draft before after = record draft { arcs = draft.arcs ++ record { before = before; after = after } ∷ [] }

-- The arc whose line has these fields, after the arcs so far.
unfoldable pub arc_line_at : ℕ → Draft → List (List ℕ) → Result Draft FileFault
arc_line_at at draft fields =
    provided (nat_lt (length draft.arcs) MOST_ARCS) (Limit at what.Arcs) (
    provided (length fields == 2) (Count at) (do
      before ← known_at at draft.names (first_of fields)
      after ← known_at at draft.names (first_of (others_of fields))
      provided (not (is_arc_among draft.arcs before after)) (ArcAgain at) (Ok (with_arc draft before after))))

-- An arc where there may be one, or else the last line.
abbrev pub arc_or_end : Bool → ℕ → Draft → List (List ℕ) → Place → Result (LineRead Draft) FileFault
arc_or_end may at draft fields place =
    if may && bytes_eq (first_of fields) (codes "arc")
    then (arc_line_at at draft (others_of fields) >>= λ more. Ok (more_read more place))
    else end_at at draft fields place

-- A line after an arc.
unfoldable pub arc_step : Draft → Place → Result (LineRead Draft) FileFault
arc_step draft place = do
  line ← line_at place
  arc_or_end true place.at draft (fields_of line.0) line.1

-- A line after the head or after a job, with the lines of the job that it begins. Arcs stand only in classes with an order.
unfoldable pub job_step : Class → ℕ → ℕ → Draft → Place → Result (LineRead Draft) FileFault
job_step class machines shared draft place = do
  line ← line_at place
  if bytes_eq (first_of (fields_of line.0)) (codes "job")
      then (job_at_line class machines shared draft place.at (others_of (fields_of line.0)) line.1 >>= λ more. Ok (job_read more.0 more.1))
      else arc_or_end (has_order class.order) place.at draft (fields_of line.0) line.1

-- The lines after an arc: each is an arc.
abbrev pub arcs_from : Draft → Place → Result (Draft × Place) FileFault
arcs_from draft place = lines_from arc_step draft place

-- The lines after the head or after a job: jobs, then arcs, up to the end or a fault.
abbrev pub jobs_from : Class → ℕ → ℕ → Draft → Place → Result (Draft × Place) FileFault
jobs_from class machines shared draft place = lines_by (job_step class machines shared) (Some arcs_from) (suc (length place.rest)) draft place

-- ---- the head

unfoldable pub version_at : Place → Result Place FileFault
version_at place = do
  line ← line_at place
  provided (bytes_eq line.0 (codes "msp 1")) (Head place.at) (Ok line.1)

-- A spelling of a class, or a fault of the head.
abbrev pub spelled_class : {E : Type 0} → ℕ → Result Class E → Result Class FileFault
spelled_class at (Ok class) = Ok class
spelled_class at (Err fault) = Err (Head at)

abbrev pub class_in : ℕ → List (List ℕ) → Result Class FileFault
class_in at (word ∷ name ∷ []) = provided (bytes_eq word (codes "class")) (Head at) (spelled_class at (reading_of name))
class_in at _ = Err (Head at)

unfoldable pub class_at : Place → Result (Class × Place) FileFault
class_at place = do
  line ← line_at place
  class ← class_in place.at (fields_of line.0)
  Ok (class, line.1)

-- The number of machines.
abbrev pub machines_line_at : Place → Result (ℕ × Place) FileFault
machines_line_at place = number_line_at (codes "machines") what.Machines MOST_MACHINES place

unfoldable pub machines_at : Env → Place → Result (ℕ × Place) FileFault
machines_at env place = elim (fixed_machines env) [ Some machines ↦ Ok (machines, place) | None ↦ machines_line_at place ]

unfoldable pub speeds_in : ℕ → List ℕ → List (List ℕ) → Result (List ℕ) FileFault
speeds_in at speeds [] = Ok speeds
speeds_in at speeds (field ∷ others) = do
  speed ← natural_at at what.Speed 1 GREATEST_SPEED field
  speeds_in at (speeds ++ speed ∷ []) others

unfoldable pub speeds_line_at : ℕ → Place → Result (List ℕ × Place) FileFault
speeds_line_at machines place = do
  line ← worded_at (codes "speeds") place
  provided (length line.0 == machines) (Count place.at) (do
    speeds ← speeds_in place.at [] line.0
    Ok (speeds, line.1))

unfoldable pub speeds_at : Env → ℕ → Place → Result (List ℕ × Place) FileFault
speeds_at env machines place = if has_speeds (kind_of env) then speeds_line_at machines place else Ok ([], place)

-- The time that all operations share. Elsewhere it is 1.
abbrev pub time_line_at : Place → Result (ℕ × Place) FileFault
time_line_at place = number_line_at (codes "time") what.Time GREATEST_EQUAL_TIME place

unfoldable pub time_at : Times → Place → Result (ℕ × Place) FileFault
time_at times place = if has_time_line times then time_line_at place else Ok (1, place)

-- ---- the whole

abbrev pub no_draft : Draft
no_draft = record { names = []; jobs = []; arcs = [] }

abbrev pub filed_of : Class → ℕ → List ℕ → Draft → Filed
filed_of class machines speeds draft = record { instance = record { class = class; machines = machines; speeds = speeds; jobs = draft.jobs; arcs = draft.arcs }; names = draft.names }

-- Some number from 1 to this one is a multiple of all speeds.
unfoldable pub has_multiple : ℕ → List ℕ → Bool
has_multiple zero speeds = false
has_multiple (suc greatest) speeds = list_all (λ speed. suc greatest % speed == 0) speeds || has_multiple greatest speeds

-- The lines after those of the speeds.
unfoldable pub timed_from : Class → ℕ → Place → Result (Draft × Place) FileFault
timed_from class machines place = do
  shared ← time_at class.times place
  jobs_from class machines shared.0 no_draft shared.1

-- The lines after those of the machines. The speeds have a common multiple that is not too great.
unfoldable pub speeds_from : Class → ℕ → Place → Result (Filed × Place) FileFault
speeds_from class machines place = do
  speeds ← speeds_at class.env machines place
  provided (has_multiple GREATEST_MULTIPLE speeds.0) (Limit place.at what.Multiple) (do
    line ← timed_from class machines speeds.1
    Ok (filed_of class machines speeds.0 line.0, line.1))

-- The lines from a place on: those of one instance, up to the place after them, or up to the first fault.
unfoldable pub lines_at : Place → Result (Filed × Place) FileFault
lines_at place = do
  place ← version_at place
  class ← class_at place
  machines ← machines_at class.0.env class.1
  speeds_from class.0 machines.0 machines.1

-- The place before the first line of a text.
abbrev pub start_of : List ℕ → Place
start_of bytes = record { at = 1; rest = bytes }

-- The lines of a text: those of one instance and no more, or up to the first fault.
abbrev pub filed_at : List ℕ → Result Filed FileFault
filed_at bytes = lines_at (start_of bytes) >>= all_of

-- The lines at the front of a text: those of one instance, or up to the first fault.
abbrev pub front_at : List ℕ → Result Filed FileFault
front_at bytes = lines_at (start_of bytes) >>= front_of

-- They are read so.
abbrev pub Reads : List ℕ → Result Filed FileFault → Type 0
Reads bytes read = filed_at bytes ≡ read

abbrev pub ReadsFront : List ℕ → Result Filed FileFault → Type 0
ReadsFront bytes read = front_at bytes ≡ read
