-- The text of an instance, version 1. Each number has one spelling, so an instance with the names of its jobs has one text for each
-- spelling of its class.
use Rattle.std.specs.Prelude.{◌≡◌, ℕ, ◌+◌, Bool, true, false, List, [], ◌∷◌, ◌++◌, length, map, slice_index_or, All, codes, decimal}
use Rattle.std.specs.Option.{is_none}
use Rattle.std.specs.Fmt.{signed_decimal}
use Rattle.std.specs.List.{flat_map, join_with_byte}
use Rattle.msp_class.specs.Crit.{uses_due, uses_weight, uses_curve}
use Rattle.msp_class.specs.Env.{fixed_machines, kind_of}
use Rattle.msp_class.specs.declared.class.Class.{Class}
use Rattle.msp_class.specs.declared.class.Env.{Env}
use Rattle.msp_class.specs.declared.class.Times.{Times}
use Rattle.msp_name.specs.Names.{NameOf}
use Rattle.msp_instance.specs.declared.Need.{Need}
use Rattle.msp_instance.specs.declared.Step.{Step}
use Rattle.msp_instance.specs.declared.Curve.{Curve}
use Rattle.msp_instance.specs.declared.Job.{Job}
use Rattle.msp_instance.specs.declared.Arc.{Arc}
use Rattle.msp_instance.specs.declared.Instance.{Instance}
use Rattle.msp_instance.specs.Instance.{no_need, common_time}
use Rattle.msp_instance.specs.Conditions.{InClass}
use Rattle.msp_text.specs.Bytes.{space_byte}
use Rattle.msp_text.specs.JobName.{IsJobName, AreDistinct}
use Rattle.msp_grammar.specs.Layout.{has_times, has_time_key, has_times_line, has_route, has_speeds, has_time_line}
use Rattle.msp_grammar.specs.ScheduleText.{line_feed, name_at}

-- A line by its fields: one space between two of them, and a line feed at the end.
abbrev pub line_text : List (List ℕ) → List ℕ
line_text fields = join_with_byte space_byte fields ++ line_feed

-- What stands there only where it is wanted.
abbrev pub where_wanted : {A : Type 0} → Bool → List A → List A
where_wanted true xs = xs
where_wanted false xs = []

-- The keys of a job's line: each stands there where the class has it.
unfoldable pub time_key : Class → Job → List (List ℕ)
time_key c j = where_wanted (has_time_key c) ((codes "p=" ++ decimal (slice_index_or j.needs 0 no_need).time) ∷ [])

unfoldable pub release_key : Class → Job → List (List ℕ)
release_key c j = where_wanted c.heads ((codes "r=" ++ decimal j.release) ∷ [])

unfoldable pub due_key : Class → Job → List (List ℕ)
due_key c j = where_wanted (uses_due c.crit) ((codes "d=" ++ signed_decimal j.due) ∷ [])

unfoldable pub weight_key : Class → Job → List (List ℕ)
weight_key c j = where_wanted (uses_weight c.crit) ((codes "w=" ++ decimal j.weight) ∷ [])

abbrev pub key_fields : Class → Job → List (List ℕ)
key_fields c j = time_key c j ++ release_key c j ++ due_key c j ++ weight_key c j

-- The line of a job: its name and its keys.
abbrev pub job_fields : Class → List ℕ → Job → List (List ℕ)
job_fields c name j = codes "job" ∷ name ∷ key_fields c j

-- The times of a job on the machines in order.
abbrev pub times_fields : List Need → List (List ℕ)
times_fields needs = codes "times" ∷ map (λ n. decimal n.time) needs

-- The operations of a job in order: the machine of each, from 1, and its time, where times are written.
abbrev pub operation_fields : Bool → Need → List (List ℕ)
operation_fields timed n = decimal (n.machine + 1) ∷ where_wanted timed (decimal n.time ∷ [])

abbrev pub route_fields : Bool → List Need → List (List ℕ)
route_fields timed needs = codes "route" ∷ flat_map (operation_fields timed) needs

-- The cost curve of a job: slope and base, and the threshold and the add of each step.
abbrev pub step_fields : Step → List (List ℕ)
step_fields s = decimal s.above ∷ decimal s.add ∷ []

abbrev pub curve_fields : Curve → List (List ℕ)
curve_fields v = codes "curve" ∷ decimal v.slope ∷ signed_decimal v.base ∷ flat_map step_fields v.steps

-- The lines of a job: its own line, and where the class has them those of its times, its route and its curve.
unfoldable pub times_text : Class → Job → List ℕ
times_text c j = where_wanted (has_times_line c) (line_text (times_fields j.needs))

unfoldable pub route_text : Class → Job → List ℕ
route_text c j = where_wanted (has_route (kind_of c.env)) (line_text (route_fields (has_times c.times) j.needs))

unfoldable pub curve_text : Class → Job → List ℕ
curve_text c j = where_wanted (uses_curve c.crit) (line_text (curve_fields j.curve))

unfoldable pub job_text : Class → List ℕ → Job → List ℕ
job_text c name j = line_text (job_fields c name j) ++ times_text c j ++ route_text c j ++ curve_text c j

abbrev pub jobs_text : Class → List (List ℕ) → List Job → List ℕ
jobs_text c (name ∷ names) (j ∷ js) = job_text c name j ++ jobs_text c names js
jobs_text c _ _ = []

-- The line of an arc: the name of its job before and that of its job after.
abbrev pub arc_fields : List (List ℕ) → Arc → List (List ℕ)
arc_fields names a = codes "arc" ∷ name_at names a.before ∷ name_at names a.after ∷ []

abbrev pub arcs_text : List (List ℕ) → List Arc → List ℕ
arcs_text names arcs = flat_map (λ a. line_text (arc_fields names a)) arcs

-- The line with the number of machines, where the class does not fix it.
unfoldable pub machines_text : Env → ℕ → List ℕ
machines_text e machines = where_wanted (is_none (fixed_machines e)) (line_text (codes "machines" ∷ decimal machines ∷ []))

-- The line with the speeds of uniform machines.
unfoldable pub speeds_text : Env → List ℕ → List ℕ
speeds_text e speeds = where_wanted (has_speeds (kind_of e)) (line_text (codes "speeds" ∷ map decimal speeds))

-- The line with the time that all operations share, in a class of equal times.
unfoldable pub time_text : Times → ℕ → List ℕ
time_text t time = where_wanted (has_time_line t) (line_text (codes "time" ∷ decimal time ∷ []))

-- The line with a spelling of the class.
unfoldable pub class_text : List ℕ → List ℕ
class_text spelling = line_text (codes "class" ∷ spelling ∷ [])

-- The lines before those of the jobs, with a spelling of the class.
unfoldable pub head_text : List ℕ → Instance → List ℕ
head_text spelling i =
    line_text (codes "msp" ∷ codes "1" ∷ [])
    ++ class_text spelling
    ++ machines_text i.class.env i.machines
    ++ speeds_text i.class.env i.speeds
    ++ time_text i.class.times (common_time i)

-- The text of an instance, with a spelling of its class and the names of its jobs.
unfoldable pub instance_text : List ℕ → List (List ℕ) → Instance → List ℕ
instance_text spelling names i =
    head_text spelling i ++ jobs_text i.class names i.jobs ++ arcs_text names i.arcs ++ line_text (codes "end" ∷ [])

-- The jobs have these names: one for each job, all distinct.
pub record AreNamesOf (names : List (List ℕ)) (i : Instance) : Type 0 where
  pub one_each : length names ≡ length i.jobs
  pub spelled : All IsJobName names
  pub distinct : AreDistinct names

-- The bytes are a text of the instance, which is in its class and within the limits of texts, and of the names of its jobs.
pub record IsInstanceText (b : List ℕ) (i : Instance) (names : List (List ℕ)) : Type 0 where
  pub spelling : List ℕ
  pub spells : NameOf spelling i.class
  pub text : b ≡ instance_text spelling names i
  pub named : AreNamesOf names i
  pub in_class : InClass i
