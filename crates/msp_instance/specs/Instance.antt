-- How the data of an instance is read.
use Rattle.std.specs.Prelude.{ℕ, [], pos, slice_index_or}
use Rattle.msp_instance.specs.declared.Need.{Need}
use Rattle.msp_instance.specs.declared.Curve.{Curve}
use Rattle.msp_instance.specs.declared.Job.{Job}
use Rattle.msp_instance.specs.declared.Instance.{Instance}

-- What is read where a list has no such job or need.
abbrev pub no_need : Need
no_need = record { machine = 0; time = 0 }

abbrev pub no_curve : Curve
no_curve = record { slope = 0; base = pos 0; steps = [] }

abbrev pub no_job : Job
no_job = record { release = 0; due = pos 0; weight = 0; needs = []; curve = no_curve }

-- The job of a number, from 0.
abbrev pub job_at : Instance → ℕ → Job
job_at i j = slice_index_or i.jobs j no_job

-- The need of a number of a job, from 0.
abbrev pub need_at : Instance → ℕ → ℕ → Need
need_at i j o = slice_index_or (job_at i j).needs o no_need

-- The time that all operations share in a class of equal times: that of the first job's first need.
abbrev pub common_time : Instance → ℕ
common_time i = (need_at i 0 0).time
