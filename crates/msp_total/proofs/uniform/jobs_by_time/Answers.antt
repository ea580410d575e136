use Rattle.msp_total.proofs.TurnSteps.{by_time}
use Rattle.msp_total.proofs.uniform.jobs_by_time.Goals as goal
use Rattle.msp_pieces.proofs.feasible.OfClass.{IsOfClass-from}
use Rattle.msp_total.specs.Classes.{uniform_class}

pub timed_jobs-requires : goal.timed_jobs-requires
timed_jobs-requires c = (IsOfClass-from c.args.inst.now uniform_class c.requires.class c.requires.inner).few

pub returns : goal.returns
returns c = by_time c.args.inst.now c.in_ok-jobs.jobs.items c.sort_by_falling_key.new.jobs.items
    c.in_ok-jobs.ensures.jobs c.in_ok-jobs.ensures.times c.sort_by_falling_key.ensures.permutation c.sort_by_falling_key.ensures.sorted
