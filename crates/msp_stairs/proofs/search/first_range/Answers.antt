use Rattle.std.proofs.Common.{◌≡◌, ◌*◌, ◌<◌, get_or, length, pos, ◌-ℤ◌, ◌*ℤ◌, sym, ap, ap₂, subst, ◌∙◌, arith}
use Rattle.msp_class.specs.declared.sizes.TheConstants.{GREATEST}
use Rattle.msp_instance.specs.Instance.{job_at, no_need}
use Rattle.msp_instance.specs.Conditions.{LiesWithin}
use Rattle.msp_stairs.proofs.Tasks.{job_read, date_read, date_kept, date_held}
use Rattle.msp_stairs.proofs.Bounds.{h, some_order, few_order, first_inside, once, time_some, range_is}
use Rattle.msp_stairs.proofs.search.first_range.Goals as goal
use Rattle.msp_stairs.proofs.search.first_range.Goals.{After-index-as_slice-order}

pub bounds-order-0 : goal.bounds-order-0
bounds-order-0 c = some_order c.args.inst.now c.args.order.now c.requires.ready

pub bounds-as_slice-order : goal.bounds-as_slice-order
bounds-as_slice-order c = subst (λ xs. get_or c.args.order.now 0 0 < length xs) (sym c.as_slice.ensures) (first_inside c.args.inst.now c.args.order.now c.requires.ready)

pub total_time-all-requires-clause-few : goal.total_time-all-requires-clause-few
total_time-all-requires-clause-few c = few_order c.args.inst.now c.args.order.now c.requires.ready

pub total_time-all-requires-clause-jobs : goal.total_time-all-requires-clause-jobs
total_time-all-requires-clause-jobs c = (once c.args.inst.now c.args.order.now c.requires.ready).within

-- the first job, and its due date
read : (c : After-index-as_slice-order) → c.index-as_slice-order.result ≡ job_at c.args.inst.now (get_or c.args.order.now 0 0)
read c = job_read c.args.inst.now c.as_slice.result.now (get_or c.args.order.now 0 0) c.index-as_slice-order.result
    c.as_slice.ensures (first_inside c.args.inst.now c.args.order.now c.requires.ready) c.index-as_slice-order.is

due : (c : After-index-as_slice-order) → LiesWithin (2 * GREATEST) c.index-as_slice-order.result.due
due c = date_read c.args.inst.now (h c.args.inst.now c.args.order.now c.requires.ready) (get_or c.args.order.now 0 0) c.index-as_slice-order.result
    (first_inside c.args.inst.now c.args.order.now c.requires.ready) (read c)

pub over_machines-requires-clause-time : goal.over_machines-requires-clause-time
over_machines-requires-clause-time c =
    let i = c.args.inst.now in
    let order = c.args.order.now in
    let job = read (goal.at.over_machines-requires-clause-time c).After-index-as_slice-order in
    let alone = c.first_time-alone.ensures ∙ ap (λ ns. (get_or ns 0 no_need).time) c.as_slice-2.ensures
    ∙ ap (λ j. (get_or j.needs 0 no_need).time) job in
    omega (arith, alone, (time_some i (h i order c.requires.ready) (get_or order 0 0) (first_inside i order c.requires.ready)).1)

pub over_machines-requires-clause-date : goal.over_machines-requires-clause-date
over_machines-requires-clause-date c = date_held c.index-as_slice-order.result.due (due (goal.at.over_machines-requires-clause-date c).After-index-as_slice-order)

pub over_machines-requires-2-clause-date : goal.over_machines-requires-2-clause-date
over_machines-requires-2-clause-date c = date_held c.index-as_slice-order.result.due (due (goal.at.over_machines-requires-2-clause-date c).After-index-as_slice-order)

pub returns : goal.returns
returns c =
    let i = c.args.inst.now in
    let first = (goal.at.returns c).After-index-as_slice-order in
    let date = date_kept c.index-as_slice-order.result.due (due first) ∙ ap (λ j. j.due) (read first) in
    let alone = c.first_time-alone.ensures ∙ ap (λ ns. (get_or ns 0 no_need).time) c.as_slice-2.ensures ∙ ap (λ j. (get_or j.needs 0 no_need).time) (read first) in
    range_is i c.args.order.now c.requires.ready c.over_machines.result c.over_machines-2.result
    (c.over_machines.ensures.value ∙ ap₂ (λ t d. pos i.machines *ℤ (pos t -ℤ d)) alone date)
    (c.over_machines-2.ensures.value ∙ ap₂ (λ t d. pos i.machines *ℤ (pos t -ℤ d)) c.total_time-all.ensures.value date)
    c.over_machines.ensures.size c.over_machines-2.ensures.size
