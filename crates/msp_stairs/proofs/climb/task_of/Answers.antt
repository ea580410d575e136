use Rattle.std.proofs.Common.{get_or, pos, nat_abs, ◌+ℤ◌, ◌*ℤ◌, ap, ◌∙◌}
use Rattle.std.specs.Int.{int_max}
use Rattle.msp_instance.specs.Instance.{no_need}
use Rattle.msp_pieces.proofs.feasible.OfClass.{IsOfClass-from}
use Rattle.msp_stairs.specs.Stairs.{stairs_class}
use Rattle.msp_stairs.specs.Bounds.{capped}
use Rattle.msp_stairs.proofs.Tasks.{job_read, date_read, date_kept, date_held, task_read}
use Rattle.msp_stairs.proofs.climb.task_of.Goals as goal

pub deadline_of-due-requires-clause-date : goal.deadline_of-due-requires-clause-date
deadline_of-due-requires-clause-date c =
    let i = c.args.inst.now in
    date_held c.index-as_slice-job.result.due (date_read i (IsOfClass-from i stairs_class c.requires.class c.requires.inner) c.args.job c.index-as_slice-job.result c.requires.inside
    (job_read i c.as_slice.result.now c.args.job c.index-as_slice-job.result c.as_slice.ensures c.requires.inside c.index-as_slice-job.is))

pub returns : goal.returns
returns c =
    let i = c.args.inst.now in
    let job = c.index-as_slice-job.result in
    let read = job_read i c.as_slice.result.now c.args.job job c.as_slice.ensures c.requires.inside c.index-as_slice-job.is in
    let date = date_read i (IsOfClass-from i stairs_class c.requires.class c.requires.inner) c.args.job job c.requires.inside read in
    task_read i c.args.limits.now c.args.job c.from.result c.first_time.result c.deadline_of-due.result job read c.from.ensures
    (c.first_time.ensures ∙ ap (λ ns. (get_or ns 0 no_need).time) c.as_slice-2.ensures)
    (c.deadline_of-due.ensures ∙ ap (λ v. nat_abs (int_max (pos 0) (capped c.args.limits.now.end ((pos i.machines *ℤ v) +ℤ c.args.limits.now.late)))) (date_kept job.due date))
