use Rattle.msp_cert.proofs.LengthOrder.{distinct_jobs}
use Rattle.msp_cert.proofs.order.longest_first.Goals as goal

pub sort_by_time-requires : goal.sort_by_time-requires
sort_by_time-requires c = distinct_jobs _ c.in_ok-jobs.jobs.items c.in_ok-jobs.ensures
