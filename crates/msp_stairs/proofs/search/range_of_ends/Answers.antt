use Rattle.std.proofs.Common.{pos, ◌-ℤ◌, ◌*ℤ◌, ap, ◌∙◌}
use Rattle.msp_stairs.proofs.Bounds.{once, few_order, range_of_ends as range_is}
use Rattle.msp_stairs.proofs.search.range_of_ends.Goals as goal

pub total_time-all-requires-clause-few : goal.total_time-all-requires-clause-few
total_time-all-requires-clause-few c = few_order c.args.inst.now c.args.order.now c.requires.ready

pub total_time-all-requires-clause-jobs : goal.total_time-all-requires-clause-jobs
total_time-all-requires-clause-jobs c = (once c.args.inst.now c.args.order.now c.requires.ready).within

pub returns : goal.returns
returns c =
    let i = c.args.inst.now in
    range_is i c.args.order.now c.requires.ready c.args.late.now c.over_machines.result c.requires.met
    (c.over_machines.ensures.value ∙ ap (λ t. pos i.machines *ℤ (pos t -ℤ pos 0)) c.total_time-all.ensures.value) c.over_machines.ensures.size
