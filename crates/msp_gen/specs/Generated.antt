-- The instance that a class, a number of jobs and a seed make.
use Rattle.std.specs.Prelude.{ℕ, zero, suc, ◌+◌, ◌-◌, ◌*◌, ◌/◌, ◌%◌, min, Bool, List, [], ◌∷◌, length, pos, ◌-ℤ◌, unwrap_or, slice_index_or, ◌==◌, ◌&&◌, if◌then◌else◌}
use Rattle.std.specs.List.{list_any}
use Rattle.msp_class.specs.declared.class.Class.{Class}
use Rattle.msp_class.specs.declared.class.Env.{Env}
use Rattle.msp_class.specs.declared.class.Order.{Order}
use Rattle.msp_class.specs.declared.class.Order.TheVariants.{Free, Chains, Intree, Outtree, Prec}
use Rattle.msp_class.specs.declared.class.Times.{Times}
use Rattle.msp_class.specs.declared.class.Times.TheVariants.{General, Unit as UnitTimes, Equal}
use Rattle.msp_class.specs.declared.environments.EnvKind.{EnvKind}
use Rattle.msp_class.specs.declared.environments.EnvKind.TheVariants.{Identical, Uniform, Unrelated, OpenShop, FlowShop, JobShop}
use Rattle.msp_class.specs.Crit.{uses_due, uses_weight, uses_curve}
use Rattle.msp_class.specs.Env.{kind_of, fixed_machines, most_operations}
use Rattle.msp_instance.specs.declared.Need.{Need}
use Rattle.msp_instance.specs.declared.Step.{Step}
use Rattle.msp_instance.specs.declared.Curve.{Curve}
use Rattle.msp_instance.specs.declared.Job.{Job}
use Rattle.msp_instance.specs.declared.Arc.{Arc}
use Rattle.msp_instance.specs.declared.Instance.{Instance}
use Rattle.msp_instance.specs.Instance.{no_curve, no_need}
use Rattle.msp_gen.specs.Draws.{Drawn, draw, draw_from_one, without_draw, draw_where, draw_turns, draw_one}

-- The number of machines that the environment fixes, and 4 where it fixes none.
abbrev pub machines_of : Env → ℕ
machines_of e = unwrap_or (fixed_machines e) 4

-- On uniform machines each speed is from 1 to 4.
abbrev pub draw_speeds : EnvKind → ℕ → ℕ → Drawn (List ℕ)
draw_speeds Identical machines seed = without_draw [] seed
draw_speeds Uniform machines seed = draw_turns (λ _ _. draw_one (draw_from_one 4)) machines seed
draw_speeds Unrelated machines seed = without_draw [] seed
draw_speeds OpenShop machines seed = without_draw [] seed
draw_speeds FlowShop machines seed = without_draw [] seed
draw_speeds JobShop machines seed = without_draw [] seed

-- Equal times are drawn once, before the jobs.
abbrev pub draw_shared_time : Times → ℕ → Drawn ℕ
draw_shared_time General seed = without_draw 1 seed
draw_shared_time UnitTimes seed = without_draw 1 seed
draw_shared_time Equal seed = draw_from_one 100 seed

-- A time by a rule where times are general, and else the one that all share, without a draw.
abbrev pub draw_time : (ℕ → Drawn ℕ) → Times → ℕ → ℕ → Drawn ℕ
draw_time rule General shared seed = rule seed
draw_time rule UnitTimes shared seed = without_draw shared seed
draw_time rule Equal shared seed = without_draw shared seed

-- A time of at least 1, and on shops one that may be 0 but on the first machine.
abbrev pub draw_some_time : Times → ℕ → ℕ → Drawn ℕ
draw_some_time times shared seed = draw_time (draw_from_one 100) times shared seed

abbrev pub draw_shop_time : Times → ℕ → ℕ → ℕ → Drawn ℕ
draw_shop_time times shared zero seed = draw_some_time times shared seed
draw_shop_time times shared (suc machine) seed = draw_time (draw 101) times shared seed

-- A need on the machine, with a time by the rule.
abbrev pub draw_need : ℕ → (ℕ → Drawn ℕ) → ℕ → Drawn Need
draw_need machine rule seed = record { value = record { machine = machine; time = (rule seed).value }; seed = (rule seed).seed }

-- The machine of the next operation of a route: any for the first, and else another one than that of the operation before.
abbrev pub draw_machine : ℕ → List Need → ℕ → Drawn ℕ
draw_machine machines [] seed = draw machines seed
draw_machine machines (n ∷ ns) seed =
    let last = slice_index_or (n ∷ ns) (length ns) no_need in
    let steps = draw (machines - 1) seed in
    record { value = (last.machine + 1 + steps.value) % machines; seed = steps.seed }

-- The next operation of a route: its machine, then its time.
abbrev pub draw_operation : Times → ℕ → ℕ → List Need → ℕ → Drawn Need
draw_operation times shared machines before seed =
    let place = draw_machine machines before seed in
    draw_need place.value (draw_some_time times shared) place.seed

-- The most operations of a drawn route: 4, and 2 where no route of the environment has more.
abbrev pub most_drawn : Env → ℕ
most_drawn e = min 4 (most_operations e)

-- The needs of a job.
abbrev pub draw_needs : EnvKind → Class → ℕ → ℕ → ℕ → Drawn (List Need)
draw_needs Identical c machines shared seed = draw_one (draw_need 0 (draw_some_time c.times shared)) seed
draw_needs Uniform c machines shared seed = draw_one (draw_need 0 (draw_some_time c.times shared)) seed
draw_needs Unrelated c machines shared seed = draw_turns (λ machine _. draw_one (draw_need machine (draw_some_time c.times shared))) machines seed
draw_needs OpenShop c machines shared seed = draw_turns (λ machine _. draw_one (draw_need machine (draw_shop_time c.times shared machine))) machines seed
draw_needs FlowShop c machines shared seed = draw_turns (λ machine _. draw_one (draw_need machine (draw_shop_time c.times shared machine))) machines seed
draw_needs JobShop c machines shared seed =
    let count = draw_from_one (most_drawn c.env) seed in
    draw_turns (λ _ before. draw_one (draw_operation c.times shared machines before)) count.value count.seed

-- A step of a cost curve.
abbrev pub draw_step : ℕ → Drawn Step
draw_step seed =
    let above = draw 2000 seed in
    let add = draw 100 above.seed in
    record { value = record { above = above.value; add = add.value }; seed = add.seed }

-- A cost curve: its slope, its base from -500 to 499, and up to two steps.
abbrev pub draw_curve : ℕ → Drawn Curve
draw_curve seed =
    let slope = draw 10 seed in
    let base = draw 1000 slope.seed in
    let count = draw 3 base.seed in
    let steps = draw_turns (λ _ _. draw_one draw_step) count.value count.seed in
    record { value = record { slope = slope.value; base = pos base.value -ℤ pos 500; steps = steps.value }; seed = steps.seed }

-- A job: its times, and then what its class uses of release date, due date, weight and cost curve.
abbrev pub draw_job : Class → ℕ → ℕ → ℕ → Drawn Job
draw_job c machines shared seed =
    let needs = draw_needs (kind_of c.env) c machines shared seed in
    let release = draw_where c.heads (draw 1000) 0 needs.seed in
    let due = draw_where (uses_due c.crit) (draw 1000) 0 release.seed in
    let weight = draw_where (uses_weight c.crit) (draw_from_one 100) 1 due.seed in
    let curve = draw_where (uses_curve c.crit) draw_curve no_curve weight.seed in
    record { value = record { release = release.value; due = pos due.value; weight = weight.value; needs = needs.value; curve = curve.value }; seed = curve.seed }

-- Two times out of three what the rule draws, and else nothing.
abbrev pub draw_mostly : {A : Type 0} → (ℕ → Drawn (List A)) → ℕ → Drawn (List A)
draw_mostly rule seed =
    let coin = draw 3 seed in
    if coin.value == 0 then without_draw [] coin.seed else rule coin.seed

-- One of up to five jobs that come before a job, or of those that come behind it among so many.
abbrev pub draw_before : ℕ → ℕ → Drawn ℕ
draw_before job seed = record { value = job - 1 - (draw (min job 5) seed).value; seed = (draw (min job 5) seed).seed }

abbrev pub draw_behind : ℕ → ℕ → ℕ → Drawn ℕ
draw_behind jobs job seed = record { value = job + 1 + (draw (min (jobs - 1 - job) 5) seed).value; seed = (draw (min (jobs - 1 - job) 5) seed).seed }

-- An arc from a job to the next one, from one of those before a job, or to one of those behind it.
abbrev pub draw_arc_to_next : ℕ → ℕ → Drawn (List Arc)
draw_arc_to_next job seed = without_draw (record { before = job; after = job + 1 } ∷ []) seed

abbrev pub draw_arc_into : ℕ → ℕ → Drawn (List Arc)
draw_arc_into job seed = record { value = record { before = (draw_before job seed).value; after = job } ∷ []; seed = (draw_before job seed).seed }

abbrev pub draw_arc_from : ℕ → ℕ → ℕ → Drawn (List Arc)
draw_arc_from jobs job seed = record { value = record { before = job; after = (draw_behind jobs job seed).value } ∷ []; seed = (draw_behind jobs job seed).seed }

-- An arc that is there already is not added again.
abbrev pub is_same : Arc → Arc → Bool
is_same a b = a.before == b.before && a.after == b.after

abbrev pub added : List Arc → Arc → List Arc
added before a = if list_any (is_same a) before then [] else a ∷ []

abbrev pub draw_new_arc_into : ℕ → List Arc → ℕ → Drawn (List Arc)
draw_new_arc_into job before seed = record { value = added before (record { before = (draw_before job seed).value; after = job }); seed = (draw_before job seed).seed }

-- How many turns the arcs take: one for each job but one, and with general precedence two.
abbrev pub arc_turns : Order → ℕ → ℕ
arc_turns Free jobs = 0
arc_turns Chains jobs = jobs - 1
arc_turns Intree jobs = jobs - 1
arc_turns Outtree jobs = jobs - 1
arc_turns Prec jobs = 2 * (jobs - 1)

-- The arcs of a turn: from a job to one behind it, or from one before it to a job.
abbrev pub draw_arcs : Order → ℕ → ℕ → List Arc → ℕ → Drawn (List Arc)
draw_arcs Free jobs turn before seed = without_draw [] seed
draw_arcs Chains jobs turn before seed = draw_mostly (draw_arc_to_next turn) seed
draw_arcs Intree jobs turn before seed = draw_mostly (draw_arc_from jobs turn) seed
draw_arcs Outtree jobs turn before seed = draw_mostly (draw_arc_into (turn + 1)) seed
draw_arcs Prec jobs turn before seed = draw_new_arc_into (turn / 2 + 1) before seed

-- The instance: speeds, an equal time, the jobs, and then the arcs.
abbrev pub generated : Class → ℕ → ℕ → Instance
generated c jobs seed =
    let machines = machines_of c.env in
    let speeds = draw_speeds (kind_of c.env) machines seed in
    let shared = draw_shared_time c.times speeds.seed in
    let drawn = draw_turns (λ _ _. draw_one (draw_job c machines shared.value)) jobs shared.seed in
    let arcs = draw_turns (draw_arcs c.order jobs) (arc_turns c.order jobs) drawn.seed in
    record { class = c; machines = machines; speeds = speeds.value; jobs = drawn.value; arcs = arcs.value }
