-- The goals of `job_at_line` that are proved by lemmas.
use Rattle.msp_file.proofs.instance.draft.job_at_line.Goals as goal

pub push_job-requires : goal.push_job-requires
push_job-requires c = c.in_ok-name.ensures.fresh
